use Rattle.wf_spelling.proofs.ScanSequences.{both, lines, last_line, if_some}
use Rattle.wf_spelling.proofs.scan.class.scan_style.Goals as goal

pub returns : goal.returns
returns c =
    if_some c.style_of.result (λ style e. rw e
    (both c.scan_alone.ensures (lines _ _ (lines _ _ c.in_ok-color.ensures c.in_ok-outline_color.ensures) (both c.in_ok-width.ensures (both c.in_ok-size.ensures (last_line _ c.scan_alone-2.ensures)))))) c.style_of.ensures
