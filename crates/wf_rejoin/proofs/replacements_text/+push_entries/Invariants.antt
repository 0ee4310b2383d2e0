use Rattle.std.proofs.Common.{length}
use Rattle.wf_rejoin.proofs.replacements_text.+push_entries.Given as goal

abbrev pub decreases-push_entries : goal.decreases-push_entries
decreases-push_entries l = length l.nodes.now
