use Rattle.std.proofs.Common.{length}
use Rattle.wf_peer.proofs.peer_progress_text.+push_lines.Given as goal

abbrev pub decreases-push_lines : goal.decreases-push_lines
decreases-push_lines l = length l.nodes.now
