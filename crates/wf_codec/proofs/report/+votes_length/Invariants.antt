use Rattle.std.proofs.Common.{length}
use Rattle.wf_codec.proofs.report.+votes_length.Given as goal

abbrev pub decreases-votes_length : goal.decreases-votes_length
decreases-votes_length l = length l.votes.now
