-- Each iteration appends the records of one more sequence.
use Rattle.std.proofs.Common.{suc, arith, refl}
use Rattle.wf_ballot.specs.Sequence.{last_sequence}
use Rattle.wf_node.proofs.Pushed.{none_yet, next_one, all_there}
use Rattle.wf_node.proofs.compaction.push_sequences.Goals as goal

pub loop-number-init : goal.loop-number-init
loop-number-init c = (omega arith, λ left sum. none_yet _ _ _ left last_sequence refl sum)

pub slot_of-requires : goal.slot_of-requires
slot_of-requires c = record { from_one = c.loop-number.invariant.0; to_last = omega arith }

pub loop-number-preserved : goal.loop-number-preserved
loop-number-preserved c = (omega arith, λ left sum. next_one _ _ _ _ _ left _ c.in_ok-push_sequence.ensures c.slot_of.ensures (c.loop-number.invariant.1 (suc left) (omega arith)))

pub returns : goal.returns
returns c = all_there _ _ _ _ (c.loop-number.invariant.1 0 (omega arith))
