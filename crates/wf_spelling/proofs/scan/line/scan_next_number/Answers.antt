use Rattle.wf_spelling.proofs.ScanSequences.{both, if_some}
use Rattle.wf_spelling.proofs.scan.line.scan_next_number.Goals as goal

pub returns : goal.returns
returns c = if_some c.scan_number.result (λ number scanned. both c.take.ensures scanned) c.scan_number.ensures
