use Rattle.wf_spelling.proofs.ScanSequences.{both, last_line, if_some}
use Rattle.wf_spelling.proofs.scan.class.scan_label.Goals as goal

pub returns : goal.returns
returns c =
    if_some c.label_of.result (λ label e. rw e
    (both c.scan_alone.ensures (both c.in_ok-color.ensures
    (both (rw c.size_word.ensures at c.scan_with_word.ensures)
    (both (rw c.position_word.ensures at c.scan_with_word-2.ensures)
    (both c.in_ok-priority.ensures
    (both (rw c.force_word.ensures at c.scan_with_word-3.ensures)
    (both c.in_ok-buffer.ensures (last_line _ c.scan_alone-2.ensures))))))))) c.label_of.ensures
