use Rattle.wf_serve.proofs.First.{first_is_published}
use Rattle.wf_serve.proofs.publication.the_first_map_is_published.Goals as goal

pub returns : goal.returns
returns g c =
    first_is_published g.T.Tape c.a_catch_up_is_reachable.ensures.reachable c.a_catch_up_is_reachable.ensures.rests c.new_nodes_publish.ensures
