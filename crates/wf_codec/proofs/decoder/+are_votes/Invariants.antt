use Rattle.wf_codec.proofs.decoder.+are_votes.Given as goal

abbrev pub decreases-are_votes : goal.decreases-are_votes
decreases-are_votes l = l.count
