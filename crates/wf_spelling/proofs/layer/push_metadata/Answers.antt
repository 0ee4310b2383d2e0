use Rattle.wf_spelling.proofs.WriteSequences.{both, last_line}
use Rattle.wf_spelling.proofs.layer.push_metadata.Goals as goal

pub returns : goal.returns
returns c =
    both c.push_alone.ensures (both c.push_with_key.ensures (last_line _ c.push_alone-2.ensures))
