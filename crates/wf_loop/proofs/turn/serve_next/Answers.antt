use Rattle.wf_loop.proofs.turn.serve_next.Goals as goal
use Rattle.wf_voter.proofs.Earlier.{stay_still}

pub returns-clause-earlier : goal.returns-clause-earlier
returns-clause-earlier g c = λ are. stay_still g.T.Tape _ _ _ _ c.on_ready.ensures c.send_all.ensures.process (c.answer_next.ensures.earlier are)
