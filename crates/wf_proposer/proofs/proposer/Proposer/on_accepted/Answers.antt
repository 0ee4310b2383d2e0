-- A vote is counted by a proposal that asks for votes.
use Rattle.std.proofs.Common.{ap, subst, sym, IfOk, IsErr, Err, ◌≡◌, ◌∙◌}
use Rattle.wf_def.specs.Equality.{definition_eq}
use Rattle.wf_model.specs.Table.{on_accepted}
use Rattle.wf_proposer.specs.Next.{transition_at, Sends}
use Rattle.wf_proposer.specs.VolatileState.{leading_of, volatile_from}
use Rattle.wf_proposer.specs.declared.step_rejection.StepRejection.TheVariants.{Memory}
use Rattle.wf_proposer.specs.declared.volatile.Proposing.{Proposing}
use Rattle.wf_proposer.specs.declared.volatile.Proposing.TheVariants.{Running}
use Rattle.wf_proposer.proofs.proposer.Proposer.on_accepted.Goals as goal

pub returns-in-Accepting-clause-transition : goal.returns-in-Accepting-clause-transition
returns-in-Accepting-clause-transition c =
    let o = c.self.inside.volatile.leadership in
    rw (← c.self.view_is)
    (subst (λ (q : Proposing). IfOk c.on_accepted.result (λ next. transition_at o q next ≡ on_accepted definition_eq c.self.inside.nodes (volatile_from (leading_of o) q) c.args.from c.args.slot c.args.ballot))
    (sym (c.in-Running.is ∙ ap (Running c.in-Running.proposal) c.in-Accepting.is)) c.on_accepted.ensures.transition)

pub returns-in-Accepting-clause-memory : goal.returns-in-Accepting-clause-memory
returns-in-Accepting-clause-memory c =
    let o = c.self.inside.volatile.leadership in
    rw (← c.self.view_is)
    (subst (λ (q : Proposing). IsErr c.on_accepted.result → Sends (on_accepted definition_eq c.self.inside.nodes (volatile_from (leading_of o) q) c.args.from c.args.slot c.args.ballot) × (c.on_accepted.result ≡ Err Memory))
    (sym (c.in-Running.is ∙ ap (Running c.in-Running.proposal) c.in-Accepting.is)) c.on_accepted.ensures.memory)
