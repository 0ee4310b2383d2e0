use Rattle.wf_spelling.proofs.WriteSequences.{pieces, both}
use Rattle.wf_spelling.proofs.writer.push_opening.Goals as goal

pub returns-clause-written : goal.returns-clause-written
returns-clause-written c =
    simp pieces (simp pieces at
    (both c.push_heading.ensures.written
    (both (rw c.projection.ensures.value at c.push_projection.ensures)
    c.push_web.ensures)))
