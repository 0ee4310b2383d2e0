use Rattle.std.proofs.Common.{length}
use Rattle.wf_peer.proofs.encoder.+put_entries.Given as goal

abbrev pub decreases-put_entries : goal.decreases-put_entries
decreases-put_entries l = length l.nodes.now
