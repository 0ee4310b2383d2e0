-- One more connection, by the node whose turn it is.
use Rattle.std.proofs.Common.{◌≡◌, ◌∙◌, ◌%◌, length, ap, subst, arith}
use Rattle.wf_delivery.proofs.OneRun.{nothing_is_reachable, reachable_is_transitive}
use Rattle.wf_farm.specs.Nodes.{nodes_in}
use Rattle.wf_farm.specs.NodesTheorems.{length-nodes}
use Rattle.wf_serve.specs.Connections.{HaveCome}
use Rattle.wf_serve.proofs.Come.{none_came, one_more_came}
use Rattle.wf_serve.proofs.Serves.{gone_on}
use Rattle.wf_serve.proofs.connections.serve_connections.Goals as goal

pub loop-connection-init : goal.loop-connection-init
loop-connection-init g c = record {
  come = none_came g.T.Tape (length c.args.farm.now.hosts) (nodes_in c.args.farm.now);
  reachable = nothing_is_reachable g.T.Tape (nodes_in c.args.farm.now);
  running = c.requires.running;
  cached = c.requires.cached;
  room = λ room have. have;
}

pub serve_next-requires-clause-within : goal.serve_next-requires-clause-within
serve_next-requires-clause-within g c =
    omega (arith, c.turn_of.ensures.within, c.size-count.ensures.value, c.loop-connection.invariant.reachable.turn.as_many, length-nodes c.args.farm.now.hosts, length-nodes c.loop-connection.farm.hosts)

pub serve_next-requires-clause-running : goal.serve_next-requires-clause-running
serve_next-requires-clause-running g c = c.loop-connection.invariant.running

pub serve_next-requires-clause-cached : goal.serve_next-requires-clause-cached
serve_next-requires-clause-cached g c = c.loop-connection.invariant.cached

pub loop-connection-preserved : goal.loop-connection-preserved
loop-connection-preserved g c = record {
  come = one_more_came g.T.Tape (length c.args.farm.now.hosts) c.loop-connection.connection c.turn_of.result (nodes_in c.args.farm.now) (nodes_in c.loop-connection.farm) (nodes_in c.serve_next.new.farm)
      (c.turn_of.ensures.turn ∙ ap (λ n. c.loop-connection.connection % n) c.size-count.ensures.value) c.loop-connection.invariant.come c.serve_next.ensures.answered;
  reachable = reachable_is_transitive g.T.Tape (nodes_in c.args.farm.now) (nodes_in c.loop-connection.farm) (nodes_in c.serve_next.new.farm) c.loop-connection.invariant.reachable c.serve_next.ensures.reachable;
  running = c.serve_next.ensures.running;
  cached = c.serve_next.ensures.cached;
  room = λ room have. c.serve_next.ensures.room room (c.loop-connection.invariant.room room have);
}

pub returns-clause-come : goal.returns-clause-come
returns-clause-come g c =
    let all : c.loop-connection.connection ≡ c.args.requests = omega (arith, c.loop-connection-test.false) in
    subst (λ k. HaveCome g.T.Tape (length c.args.farm.now.hosts) k (nodes_in c.args.farm.now) (nodes_in c.loop-connection.farm)) all c.loop-connection.invariant.come

pub returns-clause-headline : goal.returns-clause-headline
returns-clause-headline g c = gone_on g.T.Tape (nodes_in c.args.farm.now) (nodes_in c.loop-connection.farm) c.agree_still.ensures c.loop-connection.invariant.reachable

pub returns-clause-running : goal.returns-clause-running
returns-clause-running g c = c.loop-connection.invariant.running

pub returns-clause-cached : goal.returns-clause-cached
returns-clause-cached g c = c.loop-connection.invariant.cached

pub returns-clause-room : goal.returns-clause-room
returns-clause-room g c = c.loop-connection.invariant.room
