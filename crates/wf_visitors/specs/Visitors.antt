-- Clients that were answered.
use Rattle.std.specs.Prelude.{◌≡◌, ◌⊎◌, ℕ, Bool, true, false, List, [], ◌∷◌, ◌++◌}
use Rattle.wf_client.specs.Client.{Client}
use Rattle.wf_sockets.specs.declared.connection.Connection.{Ghosts as Connection}
use Rattle.wf_visitors.specs.ServerReply.{nothing, IsServerReply}
use Rattle.wf_visitors.specs.declared.server.ServerReply.{ServerReply}
use Rattle.wf_visitors.specs.declared.server.Server.{Ghosts as Server}
use Rattle.wf_visitors.specs.declared.visitors.Visitors.{Visitors}

-- the clients that were answered, as they were then, with what had come of their requests and with
-- the whole responses
abbrev pub responses_of : {N C L : Type 0} {connections : Connection C} → Visitors N C L connections → List (Client × ℕ)
responses_of visitors = visitors.responses.items

module _ {S : Type 0} (servers : Server S) where
  -- this client, as it was answered, was sent a response of the server to what had come of its
  -- request
  abbrev pub IsClientAnswered : S → Client → S → Type 0
  IsClientAnswered before client after = servers.responds before client.incoming.bytes client.incoming.is_closed client.outgoing.bytes after

  -- one more client was answered, or nobody
  abbrev pub AnswersOne : S → List (Client × ℕ) → Bool → S → List (Client × ℕ) → Type 0
  AnswersOne before responses true after responses_after = (client : Client) × (responses_after ≡ responses ++ (client, 0) ∷ []) × IsClientAnswered before client after
  AnswersOne before responses false after responses_after = (responses_after ≡ responses) × ((after ≡ before) ⊎ servers.stays before after)

  -- A client was answered, or its request isn't whole; then nothing is to be written to it. In any
  -- case nothing of it was taken.
  pub record IsResponding (before : S) (old : Client) (reply : ServerReply) (after : S) (new : Client) : Type 0 where
    pub is_reply : IsServerReply (servers.stays before after) (servers.responds before old.incoming.bytes old.incoming.is_closed new.outgoing.bytes after) reply nothing new.outgoing
    pub done : new.outgoing.done ≡ 0
    pub phase : new.phase ≡ old.phase
    pub since : new.since ≡ old.since
    pub incoming : new.incoming ≡ old.incoming
