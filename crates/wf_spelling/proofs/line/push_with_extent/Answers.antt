use Rattle.wf_spelling.proofs.WriteSequences.{both}
use Rattle.wf_block.specs.Spelling.{line}
use Rattle.wf_spelling.proofs.line.push_with_extent.Goals as goal

pub returns : goal.returns
unfolding line
returns c =
    both (rw c.as_bytes.ensures.value at c.push.ensures.bytes)
    (both (rw c.minx.ensures.value at c.push_next_number.ensures)
    (both (rw c.miny.ensures.value at c.push_next_number-2.ensures)
    (both (rw c.maxx.ensures.value at c.push_next_number-3.ensures)
    (both (rw c.maxy.ensures.value at c.push_next_number-4.ensures)
    c.push-2.ensures.bytes))))
