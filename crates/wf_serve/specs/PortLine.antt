-- The line with the listener's port.
use Rattle.std.specs.Prelude.{◌≡◌, ◌≢◌, ◌≤◌, ◌++◌, ℕ, List, [], ◌∷◌, codes, decimal, take, Option, Result, Ok, Err}
use Rattle.std.specs.Io.KnownBytes.{Appends, Keeps}
use Rattle.std.specs.Net.Addr.{ipv4_octets}
use Rattle.std.specs.Net.Socket.{v4_ip, v4_port}
use Rattle.std.specs.declared.net.socket_addr.SocketAddr.{SocketAddr}
use Rattle.std.specs.declared.net.socket_addr.SocketAddr.TheVariants.{V4, V6}
use Rattle.wf_service.specs.Service.{last_port}
use Rattle.wf_stream.specs.Effects.{EndsByFailing}
use Rattle.wf_stream.specs.declared.stream.Sink.{Ghosts as Sink}
use Rattle.wf_serve.specs.StartFault.{CountsWrites}
use Rattle.wf_serve.specs.declared.fault.ServeFault.{ServeFault}
use Rattle.wf_serve.specs.declared.fault.ServeFault.TheVariants as faults

-- The address is a port of 127.0.0.1, which only this machine can reach (RFC 1122, 3.2.1.3).
abbrev pub IsHere : ℕ → SocketAddr → Type 0
IsHere port (V4 address) = (ipv4_octets (v4_ip address) ≡ 127 ∷ 0 ∷ 0 ∷ 1 ∷ []) × (v4_port address ≡ port)
IsHere port (V6 address) = ⊥

-- the line with a port
abbrev pub port_line : ℕ → List ℕ
port_line port = codes "listening " ++ decimal port ++ codes "\n"

-- The listener's port: the requested one, any if that is 0.
pub record IsPortFor (asked port : ℕ) : Type 0 where
  pub is : asked ≢ 0 → port ≡ asked
  pub least : 1 ≤ port
  pub most : port ≤ last_port

-- the bytes were written, or a prefix of them if the writer failed
abbrev pub IsWritingBytes : List ℕ → Option (List ℕ) → Option (List ℕ) → Result (Unit {0}) ServeFault → Type 0
IsWritingBytes bytes old new (Ok done) = Appends old new bytes
IsWritingBytes bytes old new (Err faults.Write) = (count : ℕ) × Appends old new (take count bytes)
IsWritingBytes bytes old new (Err faults.Start) = ⊥

-- What is written by the time that the nodes are served no more: the line with such a port, or a
-- prefix of it if the writer failed; nothing if they didn't start.
abbrev pub IsPrinted : {A : Type 0} → ℕ → Option (List ℕ) → Option (List ℕ) → Result A ServeFault → Type 0
IsPrinted asked old new (Ok done) = (port : ℕ) × IsPortFor asked port × Appends old new (port_line port)
IsPrinted asked old new (Err faults.Write) = (port : ℕ) × IsPortFor asked port × ((count : ℕ) × Appends old new (take count (port_line port)))
IsPrinted asked old new (Err faults.Start) = Keeps old new

-- How the writing ended, of any writer: a failed write is the last call, and a prefix of the bytes
-- was written without a failure before it.
module _ {K : Type 0} (sinks : Sink K) where
  -- for the crate's own contracts: of these bytes
  abbrev pub HasEnded : List ℕ → K → K → Result (Unit {0}) ServeFault → Type 0
  HasEnded bytes old new (Ok done) = Unit {0}
  HasEnded bytes old new (Err faults.Write) = (count : ℕ) × EndsByFailing sinks.written sinks.failures sinks.fails (take count bytes) old new
  HasEnded bytes old new (Err faults.Start) = ⊥

  -- Of the line with such a port. If the nodes didn't start, the writer isn't called.
  abbrev pub IsPortLineEnded : {A : Type 0} → ℕ → K → K → Result A ServeFault → Type 0
  IsPortLineEnded asked old new (Ok done) = Unit {0}
  IsPortLineEnded asked old new (Err faults.Write) = (port : ℕ) × IsPortFor asked port × ((count : ℕ) × EndsByFailing sinks.written sinks.failures sinks.fails (take count (port_line port)) old new)
  IsPortLineEnded asked old new (Err faults.Start) = new ≡ old

  -- for the crate's own contracts: what is written of that line, whether a write failed, and how
  -- the writing ended
  pub record PrintsPort {A : Type 0} (asked : ℕ) (old new : K) (result : Result A ServeFault) : Type 0 where
    pub reported : IsPrinted asked (sinks.written old) (sinks.written new) result
    pub writes : CountsWrites result (sinks.failures old) (sinks.failures new)
    pub ended : IsPortLineEnded asked old new result
