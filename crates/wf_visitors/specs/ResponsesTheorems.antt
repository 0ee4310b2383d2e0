-- Slots are as they may be in one way at most.
use Rattle.std.specs.Prelude.{ℕ, List, [], ◌∷◌, Option, Some, None}
use Rattle.std.proofs.Props.{props}
use Rattle.wf_client.specs.Client.{Client}
use Rattle.wf_sockets.specs.declared.connection.Connection.{Ghosts as Connection}
use Rattle.wf_visitors.specs.Responses.{AreResponses, MayRespond, MayRespondAt}
use Rattle.wf_visitors.specs.declared.socket.ClientConnection.{ClientConnection}

may_respond_prop : (responses : List (Client × ℕ)) (came sent : List ℕ) (client : Client) → IsProp (MayRespond responses came sent client)
may_respond_prop responses came sent client = hlevel props

module _ {C : Type 0} (connections : Connection C) where
  may_respond_at_prop : (responses : List (Client × ℕ)) (connection : Option (ClientConnection C)) (slot : Option Client) → IsProp (MayRespondAt connections responses connection slot)
  unfolding MayRespondAt
  may_respond_at_prop responses None slot = hlevel props
  may_respond_at_prop responses (Some connection) None = hlevel props
  may_respond_at_prop responses (Some connection) (Some client) = may_respond_prop responses (connections.came connection.connection) (connections.sent connection.connection) client

  pub are_responses_prop : (responses : List (Client × ℕ)) (there : List (Option (ClientConnection C))) (slots : List (Option Client)) → IsProp (AreResponses connections responses there slots)
  unfolding AreResponses
  are_responses_prop responses [] slots = hlevel props
  are_responses_prop responses (connection ∷ there) [] = hlevel props
  are_responses_prop responses (connection ∷ there) (slot ∷ slots) = hlevel (props, may_respond_at_prop, are_responses_prop responses there slots)
