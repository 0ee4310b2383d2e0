use Rattle.wf_serve.proofs.Published.{accepted_is_published}
use Rattle.wf_serve.proofs.publication.an_accepted_map_is_published.Goals as goal

pub returns : goal.returns
returns g c = accepted_is_published g.T.Tape c.a_catch_up_is_reachable.ensures.rests c.new_nodes_publish.ensures
