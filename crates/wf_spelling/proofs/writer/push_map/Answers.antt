use Rattle.wf_spelling.specs.Canon.{canon}
use Rattle.wf_spelling.proofs.WriteSequences.{pieces, both, last_line}
use Rattle.wf_spelling.proofs.writer.push_map.Goals as goal

pub returns-clause-written : goal.returns-clause-written
unfolding canon
returns-clause-written c =
    simp pieces (simp pieces at
    (both c.push_opening.ensures.written
    (both c.push_layers.ensures
    (last_line _ c.push_alone.ensures))))
