-- No tape before this one is one too many.
use Rattle.std.proofs.Common.{◌<◌, ◌≤◌, ℕ}
use Rattle.wf_folder.specs.Admission.{IsTapeThere}
use Rattle.wf_folder.proofs.admission.first_surplus.Given as goal

abbrev pub invariant-loop-number : goal.invariant-loop-number
invariant-loop-number l = (i : ℕ) → l.nodes ≤ i → i < l.number → ¬ IsTapeThere l.tapes i
