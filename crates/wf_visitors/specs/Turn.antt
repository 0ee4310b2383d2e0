-- What a turn of a client changes: what came and was sent on its connection, and the client.
use Rattle.std.specs.Prelude.{◌≡◌, ◌+◌, ⊤, ℕ, List, ◌++◌, take}
use Rattle.wf_client.specs.Client.{Client}
use Rattle.wf_client.specs.ResponseBuffer.{rest_of}
use Rattle.wf_visitors.specs.declared.turn.ClientTurn.{ClientTurn}
use Rattle.wf_visitors.specs.declared.turn.ClientTurn.TheVariants.{Here, Gone}
use Rattle.wf_visitors.specs.declared.turn.Step.{Step}
use Rattle.wf_visitors.specs.declared.turn.Step.TheVariants.{More, Done}

-- that, unless the client has gone
abbrev pub IfHere : ClientTurn → Type 0 → Type 0
IfHere Here fact = fact
IfHere Gone fact = ⊤

-- so of a turn's step
abbrev pub IfGoesOn : Step → Type 0 → Type 0
IfGoesOn More fact = fact
IfGoesOn (Done turn) fact = IfHere turn fact

-- bytes may have come, which were put behind those of the request, and nothing else has changed
pub record IsReceiving (came sent : List ℕ) (old : Client) (came_after sent_after : List ℕ) (new : Client) : Type 0 where
  pub phase : new.phase ≡ old.phase
  pub since : new.since ≡ old.since
  pub outgoing : new.outgoing ≡ old.outgoing
  pub piece : List ℕ
  pub came_more : came_after ≡ came ++ piece
  pub incoming : new.incoming.bytes ≡ old.incoming.bytes ++ piece
  pub sent_still : sent_after ≡ sent

-- the next bytes of the response may have been sent, and nothing else has changed
pub record IsGiving (came sent : List ℕ) (old : Client) (came_after sent_after : List ℕ) (new : Client) : Type 0 where
  pub phase : new.phase ≡ old.phase
  pub since : new.since ≡ old.since
  pub incoming : new.incoming ≡ old.incoming
  pub bytes : new.outgoing.bytes ≡ old.outgoing.bytes
  pub count : ℕ
  pub done : new.outgoing.done ≡ old.outgoing.done + count
  pub sent_more : sent_after ≡ sent ++ take count (rest_of old.outgoing)
  pub came_still : came_after ≡ came
