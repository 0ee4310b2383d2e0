use Rattle.std.proofs.Common.{length}
use Rattle.wf_replica.proofs.answer.+digest_of.Given as goal

abbrev pub decreases-digest_of : goal.decreases-digest_of
decreases-digest_of l = length l.definitions.now
