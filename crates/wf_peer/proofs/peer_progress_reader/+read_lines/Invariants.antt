use Rattle.std.proofs.Common.{length}
use Rattle.wf_peer.proofs.peer_progress_reader.+read_lines.Given as goal

abbrev pub decreases-read_lines : goal.decreases-read_lines
decreases-read_lines l = length l.nodes.now
