use Rattle.wf_histories.proofs.Killed.{answers_by_then, earlier_answers, whole_is_within}
use Rattle.wf_histories.proofs.theorem.killed_answers_are_of_nodes.Goals as goal

pub returns-clause-moment : goal.returns-clause-moment
returns-clause-moment g c = answers_by_then g.T.Tape

pub returns-clause-earlier : goal.returns-clause-earlier
returns-clause-earlier g c = earlier_answers g.T.Tape

pub returns-clause-whole : goal.returns-clause-whole
returns-clause-whole g c = whole_is_within g.T.Tape
