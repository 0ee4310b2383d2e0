use Rattle.std.proofs.Common.{refl}
use Rattle.wf_spelling.proofs.ScanSequences.{both, if_some}
use Rattle.wf_spelling.proofs.scan.line.scan_text.Goals as goal

pub returns-then-skip : goal.returns-then-skip
returns-then-skip c = if_some c.empty_text.result (λ text e. rw e (c.if-skip.ensures.past refl)) c.empty_text.ensures

pub returns-in-Ok : goal.returns-in-Ok
returns-in-Ok c = rw c.in-Ok.ensures.value (both (c.if-skip.ensures.unchanged refl) c.in_ok-bytes.ensures)
