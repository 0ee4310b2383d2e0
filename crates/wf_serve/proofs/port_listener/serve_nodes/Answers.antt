-- The nodes catch up, and then the connections are served, or, if the port wasn't printed, none is.
use Rattle.std.proofs.Common.{refl, sym, subst}
use Rattle.std.specs.Prelude.{Ok}
use Rattle.wf_delivery.proofs.OneRun.{reachable_is_transitive}
use Rattle.wf_farm.specs.Nodes.{nodes_in}
use Rattle.wf_farm.specs.NodesTheorems.{length-nodes}
use Rattle.wf_serve.specs.Agreement.{HaveGoneOn}
use Rattle.wf_serve.specs.CacheSet.{HaveRoom}
use Rattle.wf_serve.specs.Connections.{HaveCome, IsServing}
use Rattle.wf_serve.proofs.Serves.{gone_on}
use Rattle.wf_serve.proofs.port_listener.serve_nodes.Given as given
use Rattle.wf_serve.proofs.port_listener.serve_nodes.Goals as goal

serving : (g : given.Over) (c : goal.After-agree_still g) → IsServing g.T.Tape c.args.service.requests (nodes_in c.args.farm.now) (Ok tt) (nodes_in c.serve_connections.new.farm)
serving g c = record {
  caught = nodes_in c.catch_up.new.farm;
  catch_up = c.catch_up.ensures.caught;
  come = subst (λ k. HaveCome g.T.Tape k c.args.service.requests (nodes_in c.catch_up.new.farm) (nodes_in c.serve_connections.new.farm)) (sym (length-nodes c.catch_up.new.farm.hosts)) c.serve_connections.ensures.come;
}

headline : (g : given.Over) (c : goal.After-agree_still g) → HaveGoneOn g.T.Tape (nodes_in c.args.farm.now) (nodes_in c.serve_connections.new.farm)
headline g c =
    gone_on g.T.Tape (nodes_in c.args.farm.now) (nodes_in c.serve_connections.new.farm) c.agree_still.ensures
    (reachable_is_transitive g.T.Tape (nodes_in c.args.farm.now) (nodes_in c.catch_up.new.farm) (nodes_in c.serve_connections.new.farm) c.catch_up.ensures.reachable c.serve_connections.ensures.headline.reachable)

pub returns-in-Ok-clause-serving : goal.returns-in-Ok-clause-serving
returns-in-Ok-clause-serving g c = serving g c

pub returns-in-Ok-clause-served : goal.returns-in-Ok-clause-served
returns-in-Ok-clause-served g c = record {
  in_turn = c.nodes_agree.ensures.in_turn;
  serving = serving g c;
  caches = record { caches = c.serve_connections.new.caches; cached = c.serve_connections.ensures.cached; room = c.serve_connections.ensures.room c.args.service.cache (subst (HaveRoom c.args.service.cache) (sym c.as_mut_slice.ensures.value) c.in-Ok.ensures.room) };
  headline = headline g c;
}

pub returns-in-Ok-clause-headline : goal.returns-in-Ok-clause-headline
returns-in-Ok-clause-headline g c = headline g c

pub returns-in-Err-clause-serving : goal.returns-in-Err-clause-serving
returns-in-Err-clause-serving g c = record { caught = nodes_in c.catch_up.new.farm; catch_up = c.catch_up.ensures.caught; come = refl }

pub returns-in-Err-clause-headline : goal.returns-in-Err-clause-headline
returns-in-Err-clause-headline g c = gone_on g.T.Tape (nodes_in c.args.farm.now) (nodes_in c.catch_up.new.farm) c.agree_still-in-Err.ensures c.catch_up.ensures.reachable
