use Rattle.wf_spelling.proofs.WriteSequences.{both}
use Rattle.wf_spelling.proofs.line.push_next_number.Goals as goal

pub returns : goal.returns
returns c =
    both c.push.ensures.bytes c.push_number.ensures
