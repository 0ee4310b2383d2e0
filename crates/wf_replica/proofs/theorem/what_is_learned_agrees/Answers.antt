use Rattle.wf_replica.proofs.Reported.{learned_agree, learned_answer}
use Rattle.wf_replica.proofs.Telling.{answered_agree}
use Rattle.wf_replica.proofs.theorem.what_is_learned_agrees.Goals as goal

pub returns-clause-definition : goal.returns-clause-definition
returns-clause-definition g c = learned_agree g.T.Tape c.replicas_agree.ensures.definition

pub returns-clause-answered : goal.returns-clause-answered
returns-clause-answered g c = answered_agree g.T.Tape c.replicas_agree.ensures.definition

pub returns-clause-proposal_state : goal.returns-clause-proposal_state
returns-clause-proposal_state g c = learned_answer g.T.Tape c.replicas_answer_alike.ensures.proposal_state
