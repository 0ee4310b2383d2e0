use Rattle.wf_serve.proofs.New.{caught_up_are_new}
use Rattle.wf_serve.proofs.publication.caught_up_nodes_stay_new.Goals as goal

pub returns : goal.returns
returns g c = caught_up_are_new g.T.Tape c.a_catch_up_is_reachable.ensures.rests
