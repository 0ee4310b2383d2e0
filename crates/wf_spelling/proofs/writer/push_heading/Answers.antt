use Rattle.wf_spelling.proofs.WriteSequences.{both, last_line}
use Rattle.wf_spelling.proofs.writer.push_heading.Goals as goal

pub returns-clause-written : goal.returns-clause-written
returns-clause-written c =
    both c.push_alone.ensures (both (rw (c.as_bytes.ensures.value, c.name.ensures.value) at c.push_with_text.ensures) (last_line _ (rw c.extent.ensures.value at c.push_with_extent.ensures)))
