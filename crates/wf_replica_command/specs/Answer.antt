-- What a replica answers its clients.
use Rattle.std.specs.Prelude.{◌≡◌, ℕ, ⊤, List, [], ◌∷◌}
use Rattle.wf_client.specs.Client.{Client}
use Rattle.wf_edge.specs.declared.outcome.Outcome.{Outcome}
use Rattle.wf_replica.specs.Follower.{received_by, list_of}
use Rattle.wf_replica.specs.LearnedList.{learned}
use Rattle.wf_replica.specs.Service.{IsInputServed}
use Rattle.wf_replica.specs.declared.follower.Follower.{Follower}
use Rattle.wf_replica_command.specs.Continuation.{IsLaterReplica}
use Rattle.wf_replica_command.specs.declared.renderer.Renderer.{Renderer}
use Rattle.wf_tape.specs.declared.tape.Tape.{Ghosts as Tape}

module _ {T : Type 0} (tapes : Tape T) where
  -- A replica, whose list is what it has heard, was asked by the bytes that came, and this was
  -- written: the response over that list, or a beginning of it where memory failed.
  pub record IsResponse (replica : Follower T tapes) (came response : List ℕ) : Type 0 where
    pub lived : learned [] (received_by replica) ≡ list_of replica
    pub outcome : Outcome
    pub served : IsInputServed came (list_of replica) [] response outcome

  -- In order, each client that was answered: the replica as it then was, and the client with what
  -- had come of its request and with the whole response.
  unfoldable pub AreAnswered : List (Renderer T tapes × ℕ) → List (Client × ℕ) → Type 0
  AreAnswered [] [] = ⊤
  AreAnswered [] (client ∷ clients) = ⊥
  AreAnswered (replica ∷ replicas) [] = ⊥
  AreAnswered (replica ∷ replicas) (client ∷ clients) =
      IsResponse replica.0.follower client.0.incoming.bytes client.0.outgoing.bytes × AreAnswered replicas clients

  -- the first of these replicas, or else the present one
  abbrev pub first_of : List (Renderer T tapes × ℕ) → Follower T tapes → Follower T tapes
  first_of [] present = present
  first_of (replica ∷ replicas) present = replica.0.follower

  -- each of these replicas goes on to the next one, and the last one to the present one
  unfoldable pub AreInOrder : List (Renderer T tapes × ℕ) → Follower T tapes → Type 0
  AreInOrder [] present = ⊤
  AreInOrder (replica ∷ replicas) present = IsLaterReplica replica.0.follower (first_of replicas present) × AreInOrder replicas present
