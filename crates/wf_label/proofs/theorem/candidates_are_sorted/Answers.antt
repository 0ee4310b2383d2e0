use Rattle.wf_label.proofs.OrderLemmas.{candidates_are_sorted}
use Rattle.wf_label.proofs.theorem.candidates_are_sorted.Goals as goal

pub returns : goal.returns
returns c = candidates_are_sorted
