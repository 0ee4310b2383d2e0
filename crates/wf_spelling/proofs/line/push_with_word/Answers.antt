use Rattle.wf_spelling.proofs.WriteSequences.{both}
use Rattle.wf_block.specs.Spelling.{line}
use Rattle.wf_spelling.proofs.line.push_with_word.Goals as goal

pub returns : goal.returns
unfolding line
returns c =
    both (rw c.as_bytes.ensures.value at c.push.ensures.bytes) (both c.push-2.ensures.bytes (both (rw c.as_bytes-2.ensures.value at c.push-3.ensures.bytes) c.push-4.ensures.bytes))
