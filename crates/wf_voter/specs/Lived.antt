-- The life of a process.
use Rattle.wf_actor.specs.Life.{IsLife}
use Rattle.wf_actor.specs.Process.{posts_in, waiting_in}
use Rattle.wf_actor.specs.Sent.{AreGivenCome, AreSent}
use Rattle.wf_actor.specs.declared.process.Process.{Process}
use Rattle.wf_tape.specs.declared.tape.Tape.{Ghosts as Tape}
use Rattle.wf_wire.specs.Post.{logged}

-- The node has lived by the acts of some run; what waits for the node itself, and what is in the
-- posts that wait, it returned in that run; and what was given to it from a peer came on a
-- connection from that peer.
pub record HasLived {T : Type 0} (tapes : Tape T) (process : Process T tapes) : Type 0 where
  pub life : ∥ IsLife tapes process.actor.read_from.items process.actor.stood.items process.actor.given.items (logged process.actor.emitted.items) process.actor.node ∥₁
  pub sent : ∥ AreSent (waiting_in process) (posts_in process) (logged process.actor.emitted.items) ∥₁
  pub received : ∥ AreGivenCome process.actor.given.items ∥₁
