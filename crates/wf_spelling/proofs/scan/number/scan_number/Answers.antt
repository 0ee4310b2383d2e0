use Rattle.std.proofs.Common.{refl}
use Rattle.wf_spelling.proofs.ScanSequences.{both, if_some}
use Rattle.wf_spelling.proofs.ScannedNumber.{positive, negative, spelled_as, as_number, as_opposite}
use Rattle.wf_spelling.proofs.scan.number.scan_number.Goals as goal

pub returns-then-skip : goal.returns-then-skip
returns-then-skip c =
    if_some c.from_millionths.result (λ m e. spelled_as _ _ m e (as_opposite c.in_ok-millionths.millionths c.in_ok-millionths.ensures.most) (negative c.in_ok-millionths.millionths c.if-millionths-eq0.false (c.if-skip.ensures.past refl) c.in_ok-millionths.ensures.scanned)) c.from_millionths.ensures.value

pub returns : goal.returns
returns c =
    if_some c.from_millionths-2.result (λ m e. spelled_as _ _ m e (as_number c.in_ok-millionths-2.millionths c.in_ok-millionths-2.ensures.most) (positive c.in_ok-millionths-2.millionths (both (c.if-skip.ensures.unchanged refl) c.in_ok-millionths-2.ensures.scanned))) c.from_millionths-2.ensures.value
