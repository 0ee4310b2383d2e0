-- No tape before this one has a byte.
use Rattle.std.proofs.Common.{◌<◌, ℕ}
use Rattle.wf_folder.specs.Admission.{HasByte}
use Rattle.wf_folder.proofs.admission.is_any_written.Given as goal

abbrev pub invariant-loop-tape : goal.invariant-loop-tape
invariant-loop-tape l = (i : ℕ) → i < l.tape-index → ¬ HasByte l.tapes i
