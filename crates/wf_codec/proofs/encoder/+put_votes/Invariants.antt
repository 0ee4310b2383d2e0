use Rattle.std.proofs.Common.{length}
use Rattle.wf_codec.proofs.encoder.+put_votes.Given as goal

abbrev pub decreases-put_votes : goal.decreases-put_votes
decreases-put_votes l = length l.votes.now
