use Rattle.wf_spelling.proofs.ScanSequences.{both}
use Rattle.wf_block.specs.Spelling.{line}
use Rattle.wf_spelling.proofs.scan.line.scan_point.Goals as goal

pub returns : goal.returns
unfolding line
returns c = both c.in_ok-x.ensures (both c.in_ok-y.ensures c.take.ensures)
