use Rattle.wf_catch_up.proofs.Asked.{catch_up_is_reachable, level_rests}
use Rattle.wf_catch_up.proofs.questions.a_catch_up_is_reachable.Goals as goal

pub returns-clause-reachable : goal.returns-clause-reachable
returns-clause-reachable g c = catch_up_is_reachable g.T.Tape

pub returns-clause-rests : goal.returns-clause-rests
returns-clause-rests g c = level_rests g.T.Tape
