use Rattle.std.proofs.Common.{◌∙◌}
use Rattle.wf_voter.proofs.Continuation.{twice_in}
use Rattle.wf_voter.proofs.Earlier.{stay_still}
use Rattle.wf_loop.proofs.Readers.{replied_along}
use Rattle.wf_loop.proofs.event_loop.EventLoop.act.Goals as goal

pub returns-clause-on : goal.returns-clause-on
returns-clause-on g c = twice_in g.T.Tape _ _ _ _ _ _ c.serve_all.ensures.on c.turn_by_clock.ensures.on

pub returns-clause-outvoted : goal.returns-clause-outvoted
returns-clause-outvoted g c = λ is. c.turn_by_clock.ensures.befores ∙ c.serve_all.ensures.outvoted is

pub returns-clause-joins : goal.returns-clause-joins
returns-clause-joins g c = λ is. c.turn_by_clock.ensures.befores ∙ c.serve_all.ensures.joins is

pub invariant_of-self : goal.invariant_of-self
invariant_of-self g c = record {
  earlier = stay_still g.T.Tape _ _ _ _ c.turn_by_clock.ensures.befores c.turn_by_clock.ensures.on.process (c.serve_all.ensures.earlier c.args.self.now.earlier);
  replied = replied_along g.T.Tape _ _ _ _ (c.answer_operators.ensures ∙ c.turn_by_clock.ensures.exchanges) c.turn_by_clock.ensures.on.process (c.serve_all.ensures.readers c.args.self.now.replied);
}
