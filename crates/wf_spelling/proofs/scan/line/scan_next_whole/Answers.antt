use Rattle.wf_spelling.proofs.ScanSequences.{both}
use Rattle.wf_spelling.proofs.scan.line.scan_next_whole.Goals as goal

pub returns : goal.returns
returns c = both c.take.ensures c.in_ok-whole.ensures.scanned
