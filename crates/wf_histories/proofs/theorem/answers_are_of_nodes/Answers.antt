use Rattle.wf_histories.proofs.Answers.{answers_of_nodes}
use Rattle.wf_histories.proofs.theorem.answers_are_of_nodes.Goals as goal

pub returns : goal.returns
returns g c = answers_of_nodes g.T.Tape
