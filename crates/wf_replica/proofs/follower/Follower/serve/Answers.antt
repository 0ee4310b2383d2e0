-- The maps stay, and what was heard.
use Rattle.std.proofs.Common.{refl}
use Rattle.wf_replica.proofs.Hearing.{heard_same}
use Rattle.wf_replica.proofs.Recorded.{recorded_same}
use Rattle.wf_replica.specs.Follower.{answers_of, list_of, read_by, received_by}
use Rattle.wf_replica.specs.MapList.{heard_by, maps_of}
use Rattle.wf_replica.proofs.follower.Follower.serve.Goals as goal

pub invariant_of-self : goal.invariant_of-self
invariant_of-self g c =
    let old = c.args.self.now in record {
      recorded = recorded_same g.T.Tape (list_of old) (maps_of c.serve.new.self) old.tape old.tape old.recorded refl c.serve.ensures.list;
      heard = heard_same (read_by old) (received_by old) (heard_by c.serve.new.self) (answers_of old) c.serve.ensures.received old.heard;
    }
