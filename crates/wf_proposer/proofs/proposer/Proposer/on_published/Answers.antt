-- The running proposal ends, if it is for the slot.
use Rattle.std.proofs.Common.{ap, sym, ◌∙◌}
use Rattle.wf_proposer.specs.VolatileState as shown
use Rattle.wf_proposer.specs.VolatileState.{leading_of}
use Rattle.wf_proposer.proofs.Counted.{published_there}
use Rattle.wf_proposer.proofs.proposer.Proposer.on_published.Goals as goal

pub returns-then-is_for-clause-volatile : goal.returns-then-is_for-clause-volatile
returns-then-is_for-clause-volatile c =
    rw (← c.self.view_is)
    (ap shown.volatile_of (c.proposes.ensures ∙ ap (λ ended. record { proposing = ended; leadership = c.self.inside.volatile.leadership }) c.end_with-ended.ensures) ∙
    published_there (leading_of c.self.inside.volatile.leadership) c.self.inside.volatile.proposing c.in-Running.proposal _ c.args.slot c.args.canon.now c.in-Running.is (sym c.is_for.ensures ∙ c.if-is_for.true))
