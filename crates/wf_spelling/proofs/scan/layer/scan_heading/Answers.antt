use Rattle.wf_spelling.proofs.ScanSequences.{both}
use Rattle.wf_spelling.proofs.scan.layer.scan_heading.Goals as goal

pub returns : goal.returns
returns c =
    both c.in_ok-name.ensures (both (rw c.kind_word.ensures at c.scan_with_word.ensures) (both c.in-Some.ensures (both c.in-Some-scan_with_text.ensures (both c.in-Some-scan_attribute_names.ensures c.in-Some-scan_metadata.ensures))))
