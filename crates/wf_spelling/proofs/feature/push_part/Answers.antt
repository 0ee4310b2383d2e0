use Rattle.wf_spelling.proofs.WriteSequences.{pieces, both, last_line}
use Rattle.wf_spelling.proofs.feature.push_part.Goals as goal

pub returns : goal.returns
returns c =
    simp pieces
    (both c.push_alone.ensures
    (both (rw c.as_slice.ensures.value at c.push_points.ensures)
    (last_line _ c.push_alone-2.ensures)))
