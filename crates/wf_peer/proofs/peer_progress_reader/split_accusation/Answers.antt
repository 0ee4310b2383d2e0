-- What isn't read is neither an accusation nor the end of a line.
use Rattle.wf_peer.proofs.Lines.{no_accusation}
use Rattle.wf_peer.proofs.peer_progress_reader.split_accusation.Goals as goal

pub returns-in-None-split_accused-clause-none : goal.returns-in-None-split_accused-clause-none
returns-in-None-split_accused-clause-none c = no_accusation c.args.bytes.now c.in-None.ensures c.in-None-split_accused.ensures.none
