-- The lists get shorter.
use Rattle.std.proofs.Common.{length}
use Rattle.wf_farm.proofs.same.+are_same_votes.Given as goal

abbrev pub decreases-are_same_votes : goal.decreases-are_same_votes
decreases-are_same_votes l = length l.a.now
