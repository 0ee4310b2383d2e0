use Rattle.std.proofs.Common.{length}
use Rattle.wf_codec.proofs.report.+copy_votes.Given as goal

abbrev pub decreases-copy_votes : goal.decreases-copy_votes
decreases-copy_votes l = length l.votes.now
