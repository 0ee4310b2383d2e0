use Rattle.std.proofs.Common.{refl}
use Rattle.wf_spelling.proofs.ScanSequences.{both, same, if_some}
use Rattle.wf_spelling.proofs.scan.line.scan_with_rare_text.Goals as goal

pub returns-then-skip : goal.returns-then-skip
returns-then-skip c =
    if_some c.empty_text.result (λ text e. rw e (same (both (c.if-skip.ensures.past refl) c.take.ensures) c.requires)) c.empty_text.ensures

pub returns : goal.returns
returns c = if_some c.scan_with_text.result (λ text scanned. both (c.if-skip.ensures.unchanged refl) scanned) c.scan_with_text.ensures
