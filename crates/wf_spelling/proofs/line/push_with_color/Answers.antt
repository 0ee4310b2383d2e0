use Rattle.wf_spelling.proofs.WriteSequences.{both}
use Rattle.wf_block.specs.Spelling.{line}
use Rattle.wf_spelling.proofs.line.push_with_color.Goals as goal

pub returns : goal.returns
unfolding line
returns c =
    both (rw c.as_bytes.ensures.value at c.push.ensures.bytes) (both c.push_next_whole.ensures (both c.push_next_whole-2.ensures (both c.push_next_whole-3.ensures c.push-2.ensures.bytes)))
