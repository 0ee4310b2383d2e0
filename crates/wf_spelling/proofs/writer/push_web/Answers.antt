use Rattle.wf_spelling.proofs.WriteSequences.{both, last_line}
use Rattle.wf_spelling.proofs.writer.push_web.Goals as goal

pub returns : goal.returns
returns c =
    both c.push_alone.ensures (both c.push_alone-2.ensures (both (rw (c.as_bytes.ensures.value, c.title.ensures.value) at c.push_with_key.ensures) (both (rw (c.as_bytes-2.ensures.value, c.abstract_text.ensures.value) at c.push_with_key-2.ensures) (both (rw (c.as_bytes-3.ensures.value, c.address.ensures.value) at c.push_with_key-3.ensures) (both c.push_alone-3.ensures (last_line _ c.push_alone-4.ensures))))))
