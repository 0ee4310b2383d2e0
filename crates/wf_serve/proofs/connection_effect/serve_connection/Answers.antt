-- The request, the deliveries, the retry and the catch-up come in turn, each leading the nodes on.
use Rattle.std.proofs.Common.{◌<◌, ◌∙◌, length, ap, refl, rules, slice_set, subst, sym, arith}
use Rattle.std.proofs.lemmas.Option.{slice_get_read}
use Rattle.wf_delivery.proofs.OneRun.{reachable_is_transitive}
use Rattle.wf_delivery.specs.DeliveryTheorems.{halted_twice, none_before}
use Rattle.wf_delivery.specs.Reachability.{AreReachableFrom}
use Rattle.wf_farm.specs.Nodes.{nodes_in}
use Rattle.wf_farm.specs.NodesTheorems.{length-nodes}
use Rattle.wf_wms.specs.CachedPictures.{AllCached, CacheValue}
use Rattle.wf_serve.proofs.Caches.{cached_grown, cached_with, room_with, there_is}
use Rattle.wf_serve.proofs.Responded.{IsServedWhole, served_whole}
use Rattle.wf_serve.proofs.Serves.{gone_on}
use Rattle.wf_serve.specs.ConnectionEffect.{IsConnection}
use Rattle.wf_serve.proofs.connection_effect.serve_connection.Given as given
use Rattle.wf_serve.proofs.connection_effect.serve_connection.Goals as goal

retried : (g : given.Over) (c : goal.After-agree_still g) → AreReachableFrom g.T.Tape (nodes_in c.args.farm.now) (nodes_in c.retry.new.farm)
retried g c = reachable_is_transitive g.T.Tape (nodes_in c.args.farm.now) (nodes_in c.respond-outcome.new.farm) (nodes_in c.retry.new.farm) c.respond-outcome.ensures.reachable c.retry.ensures.reachable

reachable : (g : given.Over) (c : goal.After-agree_still g) → AreReachableFrom g.T.Tape (nodes_in c.args.farm.now) (nodes_in c.catch_up.new.farm)
reachable g c = reachable_is_transitive g.T.Tape (nodes_in c.args.farm.now) (nodes_in c.retry.new.farm) (nodes_in c.catch_up.new.farm) (retried g c) c.catch_up.ensures.reachable

pub retry-requires-clause-within : goal.retry-requires-clause-within
retry-requires-clause-within g c =
    omega (arith, c.requires.within, c.respond-outcome.ensures.reachable.turn.as_many, length-nodes c.args.farm.now.hosts, length-nodes c.respond-outcome.new.farm.hosts)

pub retry-requires-clause-running : goal.retry-requires-clause-running
retry-requires-clause-running g c = c.respond-outcome.ensures.running

whole : (g : given.Over) (c : goal.After-agree_still g) → IsServedWhole g.T.Tape g.K.Sink g.S.Source c.args.node_index c.args.source.now c.read-arrived.new.source c.args.sink.now c.respond-outcome.new.sink
    (nodes_in c.args.farm.now) (nodes_in c.respond-outcome.new.farm) c.respond-outcome.result
whole g c =
    let within : c.args.node_index < length (nodes_in c.args.farm.now) = omega (arith, c.requires.within, length-nodes c.args.farm.now.hosts) in
    let there = there_is (nodes_in c.args.farm.now) c.args.node_index within in
    served_whole g.T.Tape g.K.Sink g.S.Source c.args.node_index c.args.source.now c.read-arrived.new.source c.args.sink.now c.respond-outcome.new.sink
    (nodes_in c.args.farm.now) (nodes_in c.respond-outcome.new.farm) c.respond-outcome.result c.new-none.result c.new-none.ensures.items there.0 there.1
    c.read-arrived.result c.read-arrived.ensures.ok c.read-arrived.ensures.err c.read-arrived.ensures.reads c.respond-outcome.ensures.responds

pub returns-clause-reads : goal.returns-clause-reads
returns-clause-reads g c = (whole g c).reads

pub returns-clause-writes : goal.returns-clause-writes
returns-clause-writes g c = (whole g c).writes

pub returns-clause-last : goal.returns-clause-last
returns-clause-last g c = (whole g c).last

connected : (g : given.Over) (c : goal.After-agree_still g) → IsConnection g.T.Tape c.args.node_index (g.S.Source.left c.args.source.now) (g.K.Sink.written c.args.sink.now) (g.K.Sink.written c.respond-outcome.new.sink)
    (nodes_in c.args.farm.now) c.respond-outcome.result.request (nodes_in c.catch_up.new.farm)
connected g c =
    let served = (whole g c).served in
    record {
      outputs = served.outputs;
      served = served.served;
      arrived = nodes_in c.respond-outcome.new.farm;
      request = served.request;
      receiving = served.receiving;
      retried = nodes_in c.retry.new.farm;
      retry = c.retry.ensures.retried;
      catch_up = c.catch_up.ensures.caught;
    }

pub returns-clause-connection : goal.returns-clause-connection
returns-clause-connection g c = connected g c

-- A node that was halted after the deliveries is halted still.
pub returns-clause-published : goal.returns-clause-published
unfolding connected
returns-clause-published g c = λ long fresh accepted lost stopped none.
    let arrived = nodes_in c.respond-outcome.new.farm in
    let after = nodes_in c.catch_up.new.farm in
    c.an_accepted_map_is_published.ensures c.args.node_index (g.S.Source.left c.args.source.now) (g.K.Sink.written c.args.sink.now) (g.K.Sink.written c.respond-outcome.new.sink)
    (nodes_in c.args.farm.now) after c.respond-outcome.result.request long c.nodes_agree.ensures.in_turn fresh (connected g c) accepted
    ((whole g c).lost ∙ lost) ((whole g c).stopped ∙ stopped)
    (none_before arrived after (halted_twice arrived (nodes_in c.retry.new.farm) after c.retry.ensures.reachable.halted c.catch_up.ensures.reachable.halted) none)

pub returns-clause-headline : goal.returns-clause-headline
returns-clause-headline g c = gone_on g.T.Tape (nodes_in c.args.farm.now) (nodes_in c.catch_up.new.farm) c.agree_still.ensures (reachable g c)

pub bounds-caches-node_index : goal.bounds-caches-node_index
bounds-caches-node_index g c = omega (arith, c.requires.within, c.requires.cached.as_many, length-nodes c.args.farm.now.hosts)

pub offset_bounds-caches-node_index : goal.offset_bounds-caches-node_index
offset_bounds-caches-node_index g c =
    let within : c.args.node_index < length c.args.caches.now = omega (arith, c.requires.within, c.requires.cached.as_many, length-nodes c.args.farm.now.hosts) in
    search rules

pub respond-outcome-requires-clause-cached : goal.respond-outcome-requires-clause-cached
respond-outcome-requires-clause-cached g c = λ node at.
    let within : c.args.node_index < length c.args.caches.now = omega (arith, c.requires.within, c.requires.cached.as_many, length-nodes c.args.farm.now.hosts) in
    let there = slice_get_read c.args.caches.now (length c.args.caches.now) c.args.node_index c.index-caches-node_index.result refl within c.index-caches-node_index.is in
    subst (AllCached node.parts.history) c.index-caches-node_index.is (c.requires.cached.cached c.args.node_index node c.index-caches-node_index.result at there)

pub returns-clause-cached : goal.returns-clause-cached
returns-clause-cached g c =
    let one = c.respond-outcome in
    let caches = c.args.caches.now in
    let within : c.args.node_index < length caches = omega (arith, c.requires.within, c.requires.cached.as_many, length-nodes c.args.farm.now.hosts) in
    let there = slice_get_read caches (length caches) c.args.node_index c.index-caches-node_index.result refl within c.index-caches-node_index.is in
    let served = cached_with (nodes_in c.args.farm.now) (nodes_in one.new.farm) caches c.args.node_index c.index-caches-node_index.result one.new.cache one.ensures.reachable.turn.as_many one.ensures.reachable.turn.lists there one.ensures.cached c.requires.cached in
    let again = cached_grown (nodes_in one.new.farm) (nodes_in c.retry.new.farm) (slice_set caches c.args.node_index one.new.cache) c.retry.ensures.reachable.turn.as_many c.retry.ensures.reachable.turn.lists served in
    cached_grown (nodes_in c.retry.new.farm) (nodes_in c.catch_up.new.farm) (slice_set caches c.args.node_index one.new.cache) c.catch_up.ensures.reachable.turn.as_many c.catch_up.ensures.reachable.turn.lists again

pub returns-clause-room : goal.returns-clause-room
returns-clause-room g c =
    let caches = c.args.caches.now in
    let within : c.args.node_index < length caches = omega (arith, c.requires.within, c.requires.cached.as_many, length-nodes c.args.farm.now.hosts) in
    let there = slice_get_read caches (length caches) c.args.node_index c.index-caches-node_index.result refl within c.index-caches-node_index.is in
    room_with caches c.args.node_index c.index-caches-node_index.result c.respond-outcome.new.cache there
    (c.respond-outcome.ensures.room ∙ sym (ap (λ (cache : CacheValue). cache.cap) c.index-caches-node_index.is))
