use Rattle.wf_spelling.proofs.WriteSequences.{pieces, both}
use Rattle.wf_spelling.proofs.layer.push_layer_opening.Goals as goal

pub returns : goal.returns
returns c =
    simp pieces (simp pieces at
    (both c.push_alone.ensures
    (both (rw c.as_bytes.ensures.value at c.push_with_text.ensures)
    (both (rw (c.kind_word.ensures, c.kind.ensures.value) at c.push_with_word.ensures)
    (both (rw (c.as_bytes-2.ensures.value, c.class_item.ensures.value) at c.push_with_text-2.ensures)
    (both (rw (c.as_bytes-3.ensures.value, c.label_item.ensures.value) at c.push_with_text-3.ensures)
    (both (rw (c.as_bytes-4.ensures.value, c.items.ensures.value) at c.push_attribute_names.ensures)
    (both (rw (c.as_bytes-5.ensures.value, c.title.ensures.value) at c.push_metadata.ensures)
    (rw c.classes.ensures.value at c.push_classes.ensures)))))))))
