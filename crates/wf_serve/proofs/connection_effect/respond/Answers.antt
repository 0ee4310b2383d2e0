-- A request that only reads leaves the farm as it is, and the node at the index runs, so it is
-- there; a publish is an exchange. Without a request the nodes stay as they are.
use Rattle.std.proofs.Common.{◌∙◌, ap, sym, subst}
use Rattle.std.specs.Option.{option_copied}
use Rattle.wf_delivery.proofs.OneRun.{nothing_is_reachable}
use Rattle.wf_farm.specs.Nodes.{nodes_in}
use Rattle.wf_serve.proofs.Exchanged.{cached_at_on}
use Rattle.wf_serve.proofs.NodeResponse.{only_reads, read_response, still_cached}
use Rattle.wf_serve.proofs.RunningNodes.{node_there, one_there}
use Rattle.wf_wms.specs.CachedPictures.{AllCached}
use Rattle.wf_serve.proofs.connection_effect.respond.Goals as goal

pub returns-in-Err-clause-reachable : goal.returns-in-Err-clause-reachable
returns-in-Err-clause-reachable g c = nothing_is_reachable g.T.Tape (nodes_in c.args.farm.now)

pub unreachable-requires : goal.unreachable-requires
unreachable-requires g c = one_there c.args.farm.now.hosts c.args.node_index c.requires.running c.requires.within (sym c.node.ensures ∙ ap option_copied c.in_default.is)

pub answer_get-requires : goal.answer_get-requires
answer_get-requires g c =
    let there = node_there c.args.farm.now.hosts c.args.node_index c.requires.running c.requires.within c.in-Some.node.now (sym c.in-Some.ensures) in
    record {
      reads = only_reads c.in-Ok.request.asked c.resource.result c.resource.ensures c.in-Wms.is;
      cached = subst (λ h. AllCached h c.args.cache.now) (sym c.history.ensures) (c.requires.cached c.in-Some.node.now there);
    }

pub returns-in-Some : goal.returns-in-Some
returns-in-Some g c =
    let there = node_there c.args.farm.now.hosts c.args.node_index c.requires.running c.requires.within c.in-Some.node.now (sym c.in-Some.ensures) in
    record {
      responds = read_response g.T.Tape g.K.Sink c.args.node_index c.args.arrived.now c.args.sink.now c.answer_get.new.sink (nodes_in c.args.farm.now) c.outcome_without_publish-in-Wms.result
          c.in-Ok.request c.in-Some.node.now _ _ c.answer_get.result c.in-Ok.is there c.history.ensures c.status_of-status.ensures c.answer_get.ensures.read
          c.outcome_without_publish-in-Wms.ensures.request c.outcome_without_publish-in-Wms.ensures.quiet;
      reachable = nothing_is_reachable g.T.Tape (nodes_in c.args.farm.now);
      running = c.requires.running;
      cached = still_cached (nodes_in c.args.farm.now) c.args.node_index c.in-Some.node.now _ c.answer_get.new.pictures there c.history.ensures c.answer_get.ensures.cached;
      room = c.answer_get.ensures.capacity;
    }

pub returns-in-Publish-clause-cached : goal.returns-in-Publish-clause-cached
returns-in-Publish-clause-cached g c =
    let one = c.publish_at.ensures.answered in
    cached_at_on (nodes_in c.args.farm.now) (nodes_in c.publish_at.new.farm) c.args.node_index c.args.cache.now
    one.before one.changed.was c.publish_at.ensures.reachable.turn.lists c.requires.cached
