use Rattle.wf_test_calls.proofs.message.+push_votes.Given as goal

abbrev pub decreases-push_votes : goal.decreases-push_votes
decreases-push_votes l = l.count
