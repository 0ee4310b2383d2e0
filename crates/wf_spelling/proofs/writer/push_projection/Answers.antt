use Rattle.wf_spelling.proofs.WriteSequences.{both, last_line}
use Rattle.wf_block.specs.Spelling.{line}
use Rattle.wf_spelling.specs.Canon.{end_line}
use Rattle.wf_spelling.proofs.writer.push_projection.Goals as goal

pub returns : goal.returns
unfolding line
returns c =
    both c.push_alone.ensures (both (both (rw (c.as_bytes.ensures.value, c.projection_text.ensures) at c.push_quoted.ensures) c.push.ensures.bytes) (last_line end_line c.push_alone-2.ensures))
