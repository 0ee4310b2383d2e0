use Rattle.wf_spelling.proofs.WriteSequences.{pieces, both, last_line}
use Rattle.wf_spelling.proofs.class.push_style.Goals as goal

pub returns : goal.returns
returns c =
    simp pieces
    (both c.push_alone.ensures
    (both c.push_optional_color.ensures
    (both c.push_optional_color-2.ensures
    (both (rw c.get.ensures.value at c.push_with_whole.ensures)
    (both (rw c.get-2.ensures.value at c.push_with_whole-2.ensures)
    (last_line _ c.push_alone-2.ensures))))))
