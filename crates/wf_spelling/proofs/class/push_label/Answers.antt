use Rattle.wf_spelling.proofs.WriteSequences.{both, last_line}
use Rattle.wf_spelling.proofs.class.push_label.Goals as goal

pub returns : goal.returns
returns c =
    both c.push_alone.ensures (both c.push_with_color.ensures (both (rw c.size_word.ensures at c.push_with_word.ensures) (both (rw c.position_word.ensures at c.push_with_word-2.ensures) (both (rw c.get.ensures.value at c.push_with_whole.ensures) (both (rw c.force_word.ensures at c.push_with_word-3.ensures) (both (rw c.get-2.ensures.value at c.push_with_whole-2.ensures) (last_line _ c.push_alone-2.ensures)))))))
