-- None of the votes so far is at the ballot.
use Rattle.std.proofs.Common.{◌≡◌, ℕ, suc, ◌≤◌, false}
use Rattle.wf_node.specs.DurablePart.{stored_of}
use Rattle.wf_node.specs.Compaction.{is_voted}
use Rattle.wf_node.proofs.compaction.is_voted.Given as goal

abbrev pub invariant-loop-number : goal.invariant-loop-number
invariant-loop-number l = (1 ≤ l.number) × ((n : ℕ) → suc n ≡ l.number → is_voted (stored_of l.persistent).votes l.ballot n ≡ false)
