-- What clients were answered, and what came from them and was sent to them.
use Rattle.std.specs.Prelude.{◌≡◌, ◌⊎◌, ℕ, ⊤, false, true, List, [], ◌∷◌, ◌++◌, Option, Some, None, take}
use Rattle.wf_client.specs.Client.{Client, is_asking}
use Rattle.wf_sockets.specs.declared.connection.Connection.{Ghosts as Connection}
use Rattle.wf_visitors.specs.declared.socket.ClientConnection.{ClientConnection}

-- these bytes stand at the beginning of all
abbrev pub GoesOnFrom : List ℕ → List ℕ → Type 0
GoesOnFrom all bytes = (rest : List ℕ) × (all ≡ bytes ++ rest)

-- one of the clients that were answered was sent this response, and what came begins with what had
-- come of its request
unfoldable pub WasSentOne : List (Client × ℕ) → List ℕ → List ℕ → Type 0
WasSentOne [] came response = ⊥
WasSentOne (entry ∷ responses) came response = (GoesOnFrom came entry.0.incoming.bytes × (entry.0.outgoing.bytes ≡ response)) ⊎ WasSentOne responses came response

-- As long as a client's request isn't whole, it is all that came, and nothing was sent. From then
-- on what was sent is as much of its response as was taken, and that is the response to what came.
pub record MayRespond (responses : List (Client × ℕ)) (came sent : List ℕ) (client : Client) : Type 0 where
  pub asked : is_asking client.phase ≡ true → came ≡ client.incoming.bytes
  pub silent : is_asking client.phase ≡ true → sent ≡ []
  pub answered : is_asking client.phase ≡ false → ∥ WasSentOne responses came client.outgoing.bytes ∥₁
  pub taken : is_asking client.phase ≡ false → sent ≡ take client.outgoing.done client.outgoing.bytes

module _ {C : Type 0} (connections : Connection C) where
  -- so on a client's connection
  abbrev pub MayRespondOn : List (Client × ℕ) → ClientConnection C → Client → Type 0
  MayRespondOn responses connection client = MayRespond responses (connections.came connection.connection) (connections.sent connection.connection) client

  -- so in a slot that has both a connection and a client
  unfoldable pub MayRespondAt : List (Client × ℕ) → Option (ClientConnection C) → Option Client → Type 0
  MayRespondAt responses None slot = ⊤
  MayRespondAt responses (Some connection) None = ⊤
  MayRespondAt responses (Some connection) (Some client) = MayRespondOn responses connection client

  -- so in each slot: a connection and a client of one index
  unfoldable pub AreResponses : List (Client × ℕ) → List (Option (ClientConnection C)) → List (Option Client) → Type 0
  AreResponses responses [] slots = ⊤
  AreResponses responses (one ∷ there) [] = ⊤
  AreResponses responses (one ∷ there) (slot ∷ slots) = MayRespondAt responses one slot × AreResponses responses there slots
