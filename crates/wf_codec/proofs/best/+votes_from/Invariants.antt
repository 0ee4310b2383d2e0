use Rattle.std.proofs.Common.{length}
use Rattle.wf_codec.proofs.best.+votes_from.Given as goal

abbrev pub decreases-votes_from : goal.decreases-votes_from
decreases-votes_from l = length l.votes.now
