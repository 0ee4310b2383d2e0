use Rattle.wf_codec.proofs.decoder.+read_votes.Given as goal

abbrev pub decreases-read_votes : goal.decreases-read_votes
decreases-read_votes l = l.count
