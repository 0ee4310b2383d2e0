use Rattle.wf_acceptor.proofs.report.+copy_votes.Given as goal

abbrev pub decreases-copy_votes : goal.decreases-copy_votes
decreases-copy_votes l = l.count
