use Rattle.std.proofs.Common.{length}
use Rattle.wf_peer.proofs.replaced_decoder.+read_entries.Given as goal

abbrev pub decreases-read_entries : goal.decreases-read_entries
decreases-read_entries l = length l.nodes.now
