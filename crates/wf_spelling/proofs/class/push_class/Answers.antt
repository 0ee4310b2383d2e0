use Rattle.wf_spelling.proofs.WriteSequences.{pieces, both, last_line}
use Rattle.wf_spelling.proofs.class.push_class.Goals as goal

pub returns : goal.returns
returns c =
    simp pieces
    (both c.push_alone.ensures
    (both (rw (c.as_bytes.ensures.value, c.name.ensures.value) at c.push_with_text.ensures)
    (both (rw c.expression.ensures.value at c.push_optional_expression.ensures)
    (both (rw c.styles.ensures.value at c.push_styles.ensures)
    (both (rw c.label.ensures.value at c.push_optional_label.ensures)
    (last_line _ c.push_alone-2.ensures))))))
