-- Each iteration looks at one more vote.
use Rattle.std.proofs.Common.{arith, sym, ◌∙◌}
use Rattle.wf_ballot.specs.Sequence.{last_sequence}
use Rattle.wf_node.specs.DurablePart.{stored_of}
use Rattle.wf_node.proofs.Voted.{not_voted_yet, not_voted_next, voted_within}
use Rattle.wf_node.proofs.compaction.is_voted.Goals as goal

pub loop-number-init : goal.loop-number-init
loop-number-init c = (omega arith, λ n first. not_voted_yet (stored_of c.args.persistent.now).votes c.args.ballot n first)

pub slot_of-requires : goal.slot_of-requires
slot_of-requires c = record { from_one = c.loop-number.invariant.0; to_last = omega arith }

pub loop-number-preserved : goal.loop-number-preserved
loop-number-preserved c = (
  omega arith,
  λ n next. not_voted_next (stored_of c.args.persistent.now).votes c.args.ballot c.loop-number.number c.slot_of.result n c.loop-number.invariant.0 c.loop-number.invariant.1
      c.slot_of.ensures (sym c.is_voted_at.ensures ∙ c.if-is_voted_at.false) next,
)

pub returns-then-is_voted_at : goal.returns-then-is_voted_at
returns-then-is_voted_at c =
    sym (voted_within (stored_of c.args.persistent.now).votes c.args.ballot c.slot_of.result last_sequence (sym c.is_voted_at.ensures ∙ c.if-is_voted_at.true)
    (omega (arith, c.slot_of.ensures, c.loop-number.invariant.0)) (omega (arith, c.slot_of.ensures)))

pub returns : goal.returns
returns c = sym (c.loop-number.invariant.1 last_sequence (omega arith))
