use Rattle.std.proofs.Common.{◌∙◌, ap, refl}
use Rattle.wf_voter.proofs.Continuation.{then_on}
use Rattle.wf_voter.proofs.Earlier.{stay_on, stay_still}
use Rattle.wf_loop.proofs.Readers.{replied_along}
use Rattle.wf_loop.proofs.turn.serve_all.Goals as goal
use Rattle.wf_membership.specs.declared.membership.Membership.{Membership}

pub returns-clause-on : goal.returns-clause-on
returns-clause-on g c = then_on g.T.Tape _ _ _ _ _ (then_on g.T.Tape _ _ _ _ _ c.act_on_all.ensures.on c.handle_all_own.ensures) c.serve_clients.ensures.on

pub returns-clause-outvoted : goal.returns-clause-outvoted
returns-clause-outvoted g c = λ is. c.serve_clients.ensures.outvoted (c.handle_all_own.ensures.outvoted ∙ (c.act_on_all.ensures.on.outvoted ∙ is)) ∙ c.act_on_all.ensures.befores

pub returns-clause-joins : goal.returns-clause-joins
returns-clause-joins g c = λ is. c.serve_clients.ensures.joins (ap (λ (m : Membership). m.joins) (c.handle_all_own.ensures.membership ∙ c.act_on_all.ensures.on.membership) ∙ is) ∙ c.act_on_all.ensures.befores

pub returns-clause-earlier : goal.returns-clause-earlier
returns-clause-earlier g c = λ are.
    let acted = stay_still g.T.Tape _ _ _ _ c.act_on_all.ensures.befores c.act_on_all.ensures.on.process are in
    c.serve_clients.ensures.earlier (stay_on g.T.Tape _ _ _ c.handle_all_own.ensures.process acted)

pub returns-clause-readers : goal.returns-clause-readers
returns-clause-readers g c = λ are.
    replied_along g.T.Tape _ _ _ _ refl c.serve_clients.ensures.on.process (replied_along g.T.Tape _ _ _ _ refl c.handle_all_own.ensures.process (c.act_on_all.ensures.readers are))
