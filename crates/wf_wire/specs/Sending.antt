-- What the calls of a connection to a peer keep of it.
use Rattle.std.specs.Prelude.{◌≡◌}
use Rattle.wf_sockets.specs.declared.connection.Connection.{Ghosts as Connection}
use Rattle.wf_wire.specs.declared.to_peer.ToPeer.{ToPeer}

-- The greeting and how much of it was sent, the outbox, and what was posted are as they were.
pub record HasStillToSend {C : Type 0} {connections : Connection C} (before after : ToPeer C connections) : Type 0 where
  pub greeting : after.greeting ≡ before.greeting
  pub outbox : after.outbox ≡ before.outbox
  pub posts : after.posts.items ≡ before.posts.items
