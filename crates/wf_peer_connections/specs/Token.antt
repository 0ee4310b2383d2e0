-- Which sockets are of peers.
use Rattle.std.specs.Prelude.{Bool, true, false}
use Rattle.wf_peer_connections.specs.declared.socket.Socket.{Socket}
use Rattle.wf_peer_connections.specs.declared.socket.Socket.TheVariants as sockets

-- whether it is a listener for peers, or a connection to or from one
abbrev pub is_of_peer : Socket → Bool
is_of_peer (sockets.Port port) = false
is_of_peer socket = true
