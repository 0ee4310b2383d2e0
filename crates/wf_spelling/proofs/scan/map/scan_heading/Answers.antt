use Rattle.wf_spelling.specs.Canon.{projection_lines}
use Rattle.wf_spelling.specs.Scan.{web_lines_of}
use Rattle.wf_spelling.proofs.ScanSequences.{both, lines}
use Rattle.wf_spelling.proofs.scan.map.scan_heading.Goals as goal

pub returns-clause-scanned : goal.returns-clause-scanned
returns-clause-scanned c =
    let s = c.in-Some-scan_web.service in
    rw c.new.ensures
    (both c.scan_alone.ensures (both c.in_ok-name.ensures (both c.in-Some.ensures
    (lines (projection_lines c.scan_projection-projection.result) (web_lines_of s.title s.abstract_text s.address) c.scan_projection-projection.ensures c.in-Some-scan_web.ensures))))
