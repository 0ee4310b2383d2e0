-- A promise is counted by a proposal that asks for promises.
use Rattle.std.proofs.Common.{ap, subst, sym, IfOk, IsErr, Err, ◌≡◌, ◌∙◌}
use Rattle.wf_codec.specs.Message.{view_votes}
use Rattle.wf_model.specs.Table.{on_promise}
use Rattle.wf_proposer.specs.Next.{transition_at, Sends}
use Rattle.wf_proposer.specs.VolatileState.{leading_of, volatile_from}
use Rattle.wf_proposer.specs.declared.step_rejection.StepRejection.TheVariants.{Memory}
use Rattle.wf_proposer.specs.declared.volatile.Proposing.{Proposing}
use Rattle.wf_proposer.specs.declared.volatile.Proposing.TheVariants.{Running}
use Rattle.wf_proposer.proofs.proposer.Proposer.on_promise.Goals as goal

pub returns-in-Preparing-clause-transition : goal.returns-in-Preparing-clause-transition
returns-in-Preparing-clause-transition c =
    let o = c.self.inside.volatile.leadership in
    let report = c.args.report in
    rw (← c.self.view_is)
    (subst (λ (q : Proposing). IfOk c.on_promise.result (λ next. transition_at o q next ≡ on_promise c.self.inside.nodes (volatile_from (leading_of o) q) c.args.from report.slot c.args.ballot (view_votes report.votes)))
    (sym (c.in-Running.is ∙ ap (Running c.in-Running.proposal) c.in-Preparing.is)) (c.on_promise.ensures.transition o))

pub returns-in-Preparing-clause-memory : goal.returns-in-Preparing-clause-memory
returns-in-Preparing-clause-memory c =
    let o = c.self.inside.volatile.leadership in
    let report = c.args.report in
    rw (← c.self.view_is)
    (subst (λ (q : Proposing). IsErr c.on_promise.result → Sends (on_promise c.self.inside.nodes (volatile_from (leading_of o) q) c.args.from report.slot c.args.ballot (view_votes report.votes)) × (c.on_promise.result ≡ Err Memory))
    (sym (c.in-Running.is ∙ ap (Running c.in-Running.proposal) c.in-Preparing.is)) (c.on_promise.ensures.memory o))
