use Rattle.wf_spelling.proofs.WriteSequences.{both}
use Rattle.wf_block.specs.Spelling.{line}
use Rattle.wf_spelling.proofs.line.push_with_key.Goals as goal

pub returns : goal.returns
unfolding line
returns c =
    both (rw c.as_bytes.ensures.value at c.push_quoted.ensures) (both c.push.ensures.bytes (both c.push_quoted-2.ensures c.push-2.ensures.bytes))
