use Rattle.wf_answers.proofs.SendersTheorem.{only_nodes}
use Rattle.wf_answers.proofs.theorem.only_nodes_answer.Goals as goal

pub returns : goal.returns
returns g c = only_nodes _ c.kept_promises.ensures
