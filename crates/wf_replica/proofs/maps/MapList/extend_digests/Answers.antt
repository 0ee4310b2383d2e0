-- The digests go on.
use Rattle.wf_replica.proofs.Digested.{extended_by}
use Rattle.wf_replica.proofs.maps.MapList.extend_digests.Goals as goal

pub invariant_of-self-clause-digested : goal.invariant_of-self-clause-digested
invariant_of-self-clause-digested c =
    extended_by c.extend.result c.history.result.now c.args.self.now.shelf c.args.self.now.digests c.extend.new.self c.history.ensures c.extend.ensures.ok c.extend.ensures.err c.args.self.now.digested
