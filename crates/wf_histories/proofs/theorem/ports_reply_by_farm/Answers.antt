use Rattle.wf_histories.proofs.Ports.{nodes_reply, replicas_reply, whole_nodes_reply}
use Rattle.wf_histories.proofs.theorem.ports_reply_by_farm.Goals as goal

pub returns-clause-moment : goal.returns-clause-moment
returns-clause-moment g c = nodes_reply g.N.Tape

pub returns-clause-whole : goal.returns-clause-whole
returns-clause-whole g c = whole_nodes_reply g.N.Tape

pub returns-clause-replica : goal.returns-clause-replica
returns-clause-replica g c = replicas_reply g.R.Tape c.what_is_learned_is_served.ensures.learned c.what_is_learned_is_served.ensures.beginning
