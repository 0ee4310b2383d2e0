use Rattle.wf_spelling.proofs.ScanSequences.{both, last_line, if_some}
use Rattle.wf_spelling.proofs.scan.layer.scan_metadata.Goals as goal

pub returns : goal.returns
returns c =
    if_some c.scan_with_key-title.result (λ title scanned. both c.scan_alone.ensures (both scanned (last_line _ c.scan_alone-2.ensures))) c.scan_with_key-title.ensures
