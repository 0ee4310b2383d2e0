use Rattle.wf_spelling.proofs.WriteSequences.{both}
use Rattle.wf_spelling.proofs.line.push_next_whole.Goals as goal

pub returns : goal.returns
returns c =
    both c.push.ensures.bytes (rw c.from.ensures at c.push_whole.ensures)
