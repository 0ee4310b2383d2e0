use Rattle.wf_spelling.proofs.ScanSequences.{both, if_some}
use Rattle.wf_block.specs.Spelling.{line}
use Rattle.wf_spelling.proofs.scan.line.scan_with_extent.Goals as goal

pub returns : goal.returns
unfolding line
returns c =
    if_some c.new.result (λ extent e. rw e
    (both (rw c.as_bytes.ensures.value at c.take.ensures)
    (both c.in_ok-minx.ensures (both c.in_ok-miny.ensures (both c.in_ok-maxx.ensures (both c.in_ok-maxy.ensures c.take-2.ensures)))))) c.new.ensures.value
