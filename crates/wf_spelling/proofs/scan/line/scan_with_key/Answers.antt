use Rattle.wf_spelling.proofs.ScanSequences.{both, if_some}
use Rattle.wf_block.specs.Spelling.{line}
use Rattle.wf_spelling.proofs.scan.line.scan_with_key.Goals as goal

pub returns : goal.returns
unfolding line
returns c =
    rw c.requires (if_some c.scan_text-text.result (λ text scanned. both (both c.take.ensures (both (rw c.as_bytes.ensures.value at c.take-2.ensures) c.take-3.ensures)) (both c.take-4.ensures (both scanned c.take-5.ensures))) c.scan_text-text.ensures)
