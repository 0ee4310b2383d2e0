use Rattle.wf_spelling.proofs.ScanSequences.{both, lines, last_line}
use Rattle.wf_spelling.proofs.scan.class.scan_class.Goals as goal

pub returns : goal.returns
returns c =
    rw c.new.ensures
    (both c.scan_alone.ensures (both c.in_ok-name.ensures
    (lines _ _ (lines _ _ (lines _ _ c.in-Some.ensures c.in-Some-scan_styles.ensures) c.in-Some-scan_optional_label.ensures) (last_line _ c.scan_alone-2.ensures))))
