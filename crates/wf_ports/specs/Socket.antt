-- Whose a token is.
use Rattle.std.specs.Prelude.{ℕ, ◌-◌, ◌==◌, nat_lt, Option, Some, None, if◌then◌else◌}
use Rattle.wf_ports.specs.declared.socket.PortSocket.{PortSocket}
use Rattle.wf_ports.specs.declared.socket.PortSocket.TheVariants as sockets

-- an operator's, a reader's or a client's; those below are the process's own
abbrev pub connection_at : ℕ → Option PortSocket
connection_at token = if nat_lt token 512 then None else if nat_lt token 768 then Some (sockets.Operator (token - 512)) else if nat_lt token 1024 then Some (sockets.Reader (token - 768)) else Some (sockets.Client (token - 1024))

abbrev pub socket_at : ℕ → Option PortSocket
socket_at token = if token == 0 then Some sockets.Http else if token == 1 then Some sockets.Admin else if token == 2 then Some sockets.Readers else connection_at token
