use Rattle.std.proofs.Common.{length}
use Rattle.wf_replica.proofs.maps.MapList.+learn_each.Given as goal

abbrev pub decreases-learn_each : goal.decreases-learn_each
decreases-learn_each g l = length l.definitions.now
