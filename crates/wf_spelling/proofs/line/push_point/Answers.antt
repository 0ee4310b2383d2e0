use Rattle.wf_spelling.proofs.WriteSequences.{both}
use Rattle.wf_block.specs.Spelling.{line}
use Rattle.wf_spelling.proofs.line.push_point.Goals as goal

pub returns : goal.returns
unfolding line
returns c =
    both c.push_number.ensures (both c.push_next_number.ensures c.push.ensures.bytes)
