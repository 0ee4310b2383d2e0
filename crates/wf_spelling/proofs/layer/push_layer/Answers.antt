use Rattle.wf_spelling.proofs.WriteSequences.{pieces, both, last_line}
use Rattle.wf_spelling.proofs.layer.push_layer.Goals as goal

pub returns : goal.returns
returns c =
    simp pieces (simp pieces at
    (both c.push_layer_opening.ensures
    (both (rw c.features.ensures.value at c.push_features.ensures)
    (last_line _ c.push_alone.ensures))))
