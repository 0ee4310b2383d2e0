-- The nodes' tapes before this one are all there.
use Rattle.std.proofs.Common.{◌<◌, ℕ}
use Rattle.wf_folder.specs.Admission.{IsTapeThere}
use Rattle.wf_folder.proofs.admission.first_missing.Given as goal

abbrev pub invariant-loop-number : goal.invariant-loop-number
invariant-loop-number l = (i : ℕ) → i < l.number → i < l.nodes → IsTapeThere l.tapes i
