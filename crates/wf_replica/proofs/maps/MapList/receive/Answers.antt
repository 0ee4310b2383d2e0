-- The digests go on.
use Rattle.wf_codec.specs.Message.{view}
use Rattle.wf_replica.proofs.Digested.{extended_by, received_front}
use Rattle.wf_replica.proofs.maps.MapList.receive.Goals as goal

pub invariant_of-self-2-clause-digested : goal.invariant_of-self-2-clause-digested
invariant_of-self-2-clause-digested c =
    extended_by c.extend.result c.history.result.now c.receive.new.self c.args.self.now.digests c.extend.new.self c.history.ensures c.extend.ensures.ok c.extend.ensures.err
    (received_front c.args.self.now.shelf.definitions c.receive.new.self.definitions (view c.args.message) c.args.self.now.digests c.in_ok-receive.ensures.received c.args.self.now.digested)
