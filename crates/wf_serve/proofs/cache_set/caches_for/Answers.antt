-- Each cache is valid for every history, and so for its node's.
use Rattle.std.proofs.Common.{length, sym, subst, ap, arith}
use Rattle.wf_serve.specs.CacheSet.{AreEmpty, HaveRoom}
use Rattle.wf_serve.proofs.Caches.{none_yet, no_room, cached_empty}
use Rattle.wf_farm.specs.Nodes.{nodes_in}
use Rattle.wf_farm.specs.NodesTheorems.{length-nodes}
use Rattle.wf_serve.proofs.cache_set.caches_for.Goals as goal

pub loop-number-init : goal.loop-number-init
loop-number-init g c = record { size = ap length c.new-caches.ensures.items; empty = subst AreEmpty (sym c.new-caches.ensures.items) none_yet; room = subst (HaveRoom c.args.capacity) (sym c.new-caches.ensures.items) (no_room c.args.capacity) }

pub loop-number-preserved : goal.loop-number-preserved
loop-number-preserved g c = record { size = c.in_ok-add.ensures.size; empty = c.in_ok-add.ensures.empty; room = c.in_ok-add.ensures.room }

pub returns-clause-cached : goal.returns-clause-cached
returns-clause-cached g c = cached_empty (nodes_in c.args.farm.now) c.loop-number.caches.items (omega (arith, c.loop-number.invariant.size, c.loop-number-test.false, length-nodes c.args.farm.now.hosts)) c.loop-number.invariant.empty

pub returns-clause-room : goal.returns-clause-room
returns-clause-room g c = c.loop-number.invariant.room
