-- A client, and its phase.
use Rattle.std.specs.Prelude.{◌≡◌, ◌≤◌, ◌+◌, ◌-◌, ◌^◌, ℕ, Bool, List, Option, None, Some, [], ◌∷◌, false, true, length, min}
use Rattle.wf_client.specs.PartialRequest.{Incoming}
use Rattle.wf_client.specs.ResponseBuffer.{Outgoing}
use Rattle.wf_client.specs.declared.client.ClientPhase.{ClientPhase}
use Rattle.wf_client.specs.declared.client.ClientPhase.TheVariants.{Asking, Taking, Lingering}

-- its phase, since when it is in it, its request and its answer
pub record Client : Type 0 where
  pub phase : ClientPhase
  pub since : ℕ
  pub incoming : Incoming
  pub outgoing : Outgoing

-- the time of a phase, in milliseconds
abbrev pub limit_of : ClientPhase → ℕ
limit_of Asking = 10000
limit_of Taking = 10000
limit_of Lingering = 1000

-- the time of its phase is over
abbrev pub IsClientOver : ℕ → Client → Type 0
IsClientOver now client = limit_of client.phase ≤ now - client.since

-- the request isn't whole
abbrev pub is_asking : ClientPhase → Bool
is_asking Asking = true
is_asking Taking = false
is_asking Lingering = false

-- a phase began
abbrev pub PhaseBegins : ClientPhase → ℕ → Client → Client → Type 0
PhaseBegins phase now old new = new ≡ record old { phase = phase; since = now }

-- the bytes of its request and of its answer
abbrev pub weight_of : Client → ℕ
weight_of client = min (length client.incoming.bytes + length client.outgoing.bytes) (2 ^ 64 - 1)

-- the bytes of the request and the answer in a slot, and of all in slots
abbrev pub weight_at : Option Client → ℕ
weight_at None = 0
weight_at (Some client) = weight_of client

abbrev pub weight_in : List (Option Client) → ℕ
weight_in [] = 0
weight_in (slot ∷ slots) = weight_at slot + weight_in slots
