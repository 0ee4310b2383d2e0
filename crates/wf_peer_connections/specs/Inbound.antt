-- A connection from a peer: who that is, and what waits of it.
use Rattle.std.specs.Prelude.{ℕ, List, Option}
use Rattle.wf_codec.specs.declared.message.Message.{Message}
use Rattle.wf_peer_connections.specs.declared.inbound.Inbound.{Inbound}
use Rattle.wf_sockets.specs.declared.connection.Connection.{Ghosts as Connection}
use Rattle.wf_wire.specs.FromPeer.{peer_of}
use Rattle.wf_wire.specs.Reception.{waiting_in}

-- the messages that came from the peer of a connection and wait to be taken out
abbrev pub messages_in : {C : Type 0} {connections : Connection C} → Inbound C connections → List Message
messages_in inbound = waiting_in inbound.peer

-- the peer, once it has greeted and is let in
abbrev pub peer_on : {C : Type 0} {connections : Connection C} → Inbound C connections → Option ℕ
peer_on inbound = peer_of inbound.peer.said inbound.peer.is_let_in
