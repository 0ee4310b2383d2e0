-- A line that isn't read is no node's.
use Rattle.wf_peer.proofs.Lines.{no_peer_progress}
use Rattle.wf_peer.proofs.peer_progress_reader.split_line.Goals as goal

pub returns-in-None-split_heard-clause-none : goal.returns-in-None-split_heard-clause-none
returns-in-None-split_heard-clause-none c = no_peer_progress c.args.bytes.now c.in-None.ensures c.in-None-split_heard.ensures.none
