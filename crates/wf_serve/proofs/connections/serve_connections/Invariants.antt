-- This many connections were served, events of the model led the nodes on, they all run, and each
-- cache is its node's, with its room.
use Rattle.std.proofs.Common.{length}
use Rattle.wf_delivery.specs.Reachability.{AreReachableFrom}
use Rattle.wf_farm.specs.Nodes.{AllRun, nodes_in}
use Rattle.wf_serve.specs.CacheSet.{AreCached, KeepRoom}
use Rattle.wf_serve.specs.Connections.{HaveCome}
use Rattle.wf_serve.proofs.connections.serve_connections.Given as goal

abbrev pub invariant-loop-connection : goal.invariant-loop-connection
invariant-loop-connection g l = record {
  come : HaveCome g.T.Tape (length l.initial.farm.hosts) l.connection (nodes_in l.initial.farm) (nodes_in l.farm);
  reachable : AreReachableFrom g.T.Tape (nodes_in l.initial.farm) (nodes_in l.farm);
  running : AllRun l.farm.hosts;
  cached : AreCached (nodes_in l.farm) l.caches;
  room : KeepRoom l.initial.caches l.caches;
}
