-- The digests of the empty history are those of a front of it.
use Rattle.wf_node_folder.proofs.held_state.digests_of.Goals as goal

pub returns-in-Ok : goal.returns-in-Ok
returns-in-Ok c = c.in-Ok.ensures.ok 0 c.in_ok-digests.ensures
