use Rattle.wf_label.proofs.LayoutLemmas.{each_has_one_set, each_has_one_layout, placed_is_the_layout}
use Rattle.wf_label.proofs.theorem.there_is_one_placed_set.Goals as goal

pub returns-clause-one_set : goal.returns-clause-one_set
returns-clause-one_set c = each_has_one_set

pub returns-clause-one_list : goal.returns-clause-one_list
returns-clause-one_list c = each_has_one_layout

pub returns-clause-computed : goal.returns-clause-computed
returns-clause-computed c = placed_is_the_layout
