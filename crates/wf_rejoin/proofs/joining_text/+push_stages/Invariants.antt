use Rattle.std.proofs.Common.{length}
use Rattle.wf_rejoin.proofs.joining_text.+push_stages.Given as goal

abbrev pub decreases-push_stages : goal.decreases-push_stages
decreases-push_stages l = length l.stages.now
