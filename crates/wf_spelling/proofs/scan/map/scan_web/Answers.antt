use Rattle.wf_spelling.proofs.ScanSequences.{both, last_line}
use Rattle.wf_spelling.proofs.scan.map.scan_web.Goals as goal

pub returns : goal.returns
returns c =
    both c.scan_alone.ensures (both c.scan_alone-2.ensures (both c.in_ok-title.ensures (both c.in-Some.ensures (both c.in-Some-scan_with_key.ensures (both c.scan_alone-3.ensures (last_line _ c.scan_alone-4.ensures))))))
