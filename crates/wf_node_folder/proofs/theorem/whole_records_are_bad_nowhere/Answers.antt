use Rattle.wf_node_folder.proofs.Damage.{bad_nowhere}
use Rattle.wf_node_folder.proofs.theorem.whole_records_are_bad_nowhere.Goals as goal

pub returns : goal.returns
returns c = bad_nowhere c.one_text_one_map.ensures
