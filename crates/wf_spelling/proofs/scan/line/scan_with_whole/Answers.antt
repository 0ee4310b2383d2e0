use Rattle.wf_spelling.proofs.ScanSequences.{both}
use Rattle.wf_block.specs.Spelling.{line}
use Rattle.wf_spelling.proofs.scan.line.scan_with_whole.Goals as goal

pub returns : goal.returns
unfolding line
returns c = both (rw c.as_bytes.ensures.value at c.take.ensures) (both c.in_ok-whole.ensures c.take-2.ensures)
