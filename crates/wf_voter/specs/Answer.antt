-- What a process answers a client.
use Rattle.std.specs.Prelude.{◌≡◌, ℕ, ⊤, List, [], ◌∷◌, ◌++◌, Some, Vec}
use Rattle.std.specs.declared.alloc.Global.{Global}
use Rattle.wf_actor.specs.Process.{IsGoingOn, emitted_by}
use Rattle.wf_actor.specs.declared.process.Process.{Process}
use Rattle.wf_client.specs.Client.{Client}
use Rattle.wf_client.specs.ResponseBuffer.{Outgoing}
use Rattle.wf_codec.specs.declared.message.Message.{Message}
use Rattle.wf_edge.specs.RequestEffect.{IsOutcome}
use Rattle.wf_edge.specs.declared.outcome.Outcome.{Outcome}
use Rattle.wf_edge.specs.declared.outcome.Outcome.TheVariants as outcome
use Rattle.wf_voter.specs.Continuation.{IsEarlier}
use Rattle.wf_voter.specs.Lived.{HasLived}
use Rattle.wf_voter.specs.declared.voter.Voter.{Voter}
use Rattle.wf_tape.specs.declared.tape.Tape.{Ghosts as Tape}

-- unless a response was written, nothing was
abbrev pub IsLeftUnwritten : Outcome → Outgoing → Outgoing → Type 0
IsLeftUnwritten (outcome.Sent status count) old new = ⊤
IsLeftUnwritten (outcome.WriteFailed status count) old new = ⊤
IsLeftUnwritten outcome.ReadFailed old new = new ≡ old
IsLeftUnwritten outcome.NoRequest old new = new ≡ old

module _ {T : Type 0} (tapes : Tape T) where
  -- The process was asked by the bytes that came, and what was written is the response of `wf_edge`
  -- to these by its node as it stood, or a beginning of it where memory failed. What the node sent
  -- by it, the process logged as returned, nothing was given to the node, and the process is that
  -- of this node in this run.
  pub record IsProcessAnswer (before : Process T tapes) (came response : List ℕ) (outcome : Outcome) (after : Process T tapes) : Type 0 where
    pub outputs : Vec Message Global
    pub is_outcome : IsOutcome tapes (Some came) (Some []) (Some response) before.actor.node outputs after.actor.node outcome
    pub emitted : emitted_by after ≡ emitted_by before ++ outputs.items
    pub given : after.actor.given.items ≡ before.actor.given.items
    pub goes_on : IsGoingOn before after

  -- A response of a process, which had lived by its acts.
  pub record IsProcessResponse (before : Process T tapes) (came response : List ℕ) (after : Process T tapes) : Type 0 where
    pub lived : HasLived tapes before
    pub outcome : Outcome
    pub answer : IsProcessAnswer before came response outcome after

  -- It responds so; whether it is outvoted, what it goes by of replacements, and what the file
  -- `heard` has, stay.
  pub record HasResponded (before : Voter T tapes) (came response : List ℕ) (after : Voter T tapes) : Type 0 where
    pub answers : IsProcessResponse before.process came response after.process
    pub outvoted : after.is_outvoted ≡ before.is_outvoted
    pub membership : after.membership ≡ before.membership
    pub kept : after.kept ≡ before.kept

  -- In order, each client that was answered: the process before it and after it, and the client
  -- with what had come of its request and with the whole response.
  unfoldable pub AreAnswered : List (Voter T tapes × ℕ) → List (Client × ℕ) → List (Voter T tapes × ℕ) → Type 0
  AreAnswered [] [] [] = ⊤
  AreAnswered [] [] (after ∷ afters) = ⊥
  AreAnswered [] (client ∷ clients) afters = ⊥
  AreAnswered (before ∷ befores) [] afters = ⊥
  AreAnswered (before ∷ befores) (client ∷ clients) [] = ⊥
  AreAnswered (before ∷ befores) (client ∷ clients) (after ∷ afters) =
      IsProcessResponse before.0.process client.0.incoming.bytes client.0.outgoing.bytes after.0.process × AreAnswered befores clients afters

  -- ---- of one process

  -- each of these is the process at a later moment
  unfoldable pub AreAllLater : Process T tapes → List (Voter T tapes × ℕ) → Type 0
  AreAllLater past [] = ⊤
  AreAllLater past (later ∷ rest) = IsEarlier tapes past later.0.process × AreAllLater past rest

  -- The processes before these answers, in order, were all this one, as it was earlier.
  unfoldable pub AreEarlier : List (Voter T tapes × ℕ) → Process T tapes → Type 0
  AreEarlier [] now = ⊤
  AreEarlier (before ∷ befores) now = IsEarlier tapes before.0.process now × AreAllLater before.0.process befores × AreEarlier befores now

  -- If they were so before, these are so after.
  abbrev pub StayEarlier : (befores befores' : List (Voter T tapes × ℕ)) (before after : Process T tapes) → Type 0
  StayEarlier befores befores' before after = ∥ AreEarlier befores before ∥₁ → ∥ AreEarlier befores' after ∥₁
