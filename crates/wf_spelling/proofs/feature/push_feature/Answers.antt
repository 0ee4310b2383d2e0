use Rattle.wf_spelling.proofs.WriteSequences.{pieces, both, last_line}
use Rattle.wf_spelling.proofs.feature.push_feature.Goals as goal

pub returns : goal.returns
returns c =
    simp pieces
    (both c.push_alone.ensures
    (both (rw (c.as_bytes.ensures.value, c.items.ensures.value) at c.push_with_text.ensures)
    (both (rw (c.as_bytes-2.ensures.value, c.text.ensures.value) at c.push_with_text-2.ensures)
    (both (rw c.parts.ensures.value at c.push_parts.ensures)
    (last_line _ c.push_alone-2.ensures)))))
