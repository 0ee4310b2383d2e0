-- One more client that was answered.
use Rattle.std.proofs.Common.{◌≡◌, ℕ, List, [], ◌∷◌, ◌++◌, sym, subst}
use Rattle.std.proofs.Math.Logic.{∥∥₁_map}
use Rattle.wf_client.specs.Client.{Client}
use Rattle.wf_client.specs.ResponseBuffer.{Outgoing}
use Rattle.wf_edge.specs.declared.outcome.Outcome.{Outcome}
use Rattle.wf_replica.specs.Follower.{HasLearnedNothing, received_by, list_of}
use Rattle.wf_replica.specs.LearnedList.{learned}
use Rattle.wf_replica.specs.Service.{IsInputServed}
use Rattle.wf_replica.specs.declared.follower.Follower.{Follower}
use Rattle.wf_replica_command.specs.Answer.{AreAnswered, IsResponse}
use Rattle.wf_replica_command.specs.declared.renderer.Renderer.{Renderer}
use Rattle.wf_visitors.specs.ServerReply.{nothing}
use Rattle.wf_tape.specs.declared.tape.Tape.{Ghosts as Tape}

module _ {T : Type 0} (tapes : Tape T) where
  -- what a replica writes is its response
  pub responded : (before after : Follower T tapes) (came : List ℕ) (old new : Outgoing) (outcome : Outcome) → old ≡ nothing → learned [] (received_by before) ≡ list_of before
      → IsInputServed came (list_of before) old.bytes new.bytes outcome → HasLearnedNothing before after → IsResponse tapes before came new.bytes × HasLearnedNothing before after
  responded before after came old new outcome empty lived served same =
      (record { lived = lived; outcome = outcome; served = subst (λ (o : Outgoing). IsInputServed came (list_of before) o.bytes new.bytes outcome) empty served }, same)

  pub none_answered : (replicas : List (Renderer T tapes × ℕ)) (clients : List (Client × ℕ)) → replicas ≡ [] → clients ≡ [] → ∥ AreAnswered tapes replicas clients ∥₁
  unfolding AreAnswered
  none_answered replicas clients r c =
      subst (λ (xs : List (Renderer T tapes × ℕ)). ∥ AreAnswered tapes xs clients ∥₁) (sym r)
      (subst (λ (xs : List (Client × ℕ)). ∥ AreAnswered tapes [] xs ∥₁) (sym c) ∣ tt ∣₁)

  append_one : (replicas : List (Renderer T tapes × ℕ)) (clients : List (Client × ℕ)) (replica : Renderer T tapes × ℕ) (client : Client × ℕ)
      → IsResponse tapes replica.0.follower client.0.incoming.bytes client.0.outgoing.bytes → AreAnswered tapes replicas clients
      → AreAnswered tapes (replicas ++ replica ∷ []) (clients ++ client ∷ [])
  unfolding AreAnswered
  append_one [] [] replica client is are = (is, tt)
  append_one [] (c ∷ clients) replica client is are = absurd are
  append_one (r ∷ replicas) [] replica client is are = absurd are
  append_one (r ∷ replicas) (c ∷ clients) replica client is are = (are.0, append_one replicas clients replica client is are.1)

  pub one_more_answered : (replicas replicas' : List (Renderer T tapes × ℕ)) (clients clients' : List (Client × ℕ)) (replica : Renderer T tapes) (client : Client) (i j : ℕ)
      → IsResponse tapes replica.follower client.incoming.bytes client.outgoing.bytes
      → replicas' ≡ replicas ++ (replica, i) ∷ [] → clients' ≡ clients ++ (client, j) ∷ []
      → ∥ AreAnswered tapes replicas clients ∥₁ → ∥ AreAnswered tapes replicas' clients' ∥₁
  one_more_answered replicas replicas' clients clients' replica client i j is r c are =
      subst (λ (xs : List (Renderer T tapes × ℕ)). ∥ AreAnswered tapes xs clients' ∥₁) (sym r)
      (subst (λ (xs : List (Client × ℕ)). ∥ AreAnswered tapes (replicas ++ (replica, i) ∷ []) xs ∥₁) (sym c)
      (∥∥₁_map are (λ they. append_one replicas clients (replica, i) (client, j) is they)))

  -- where a client was answered by this replica
  pub answered_by : (replicas replicas' : List (Renderer T tapes × ℕ)) (clients clients' : List (Client × ℕ)) (replica after : Renderer T tapes) (i : ℕ) → replicas' ≡ replicas ++ (replica, i) ∷ []
      → (client : Client) × (clients' ≡ clients ++ (client, 0) ∷ []) × (IsResponse tapes replica.follower client.incoming.bytes client.outgoing.bytes × HasLearnedNothing replica.follower after.follower)
      → ∥ AreAnswered tapes replicas clients ∥₁ → ∥ AreAnswered tapes replicas' clients' ∥₁
  answered_by replicas replicas' clients clients' replica after i is one are = one_more_answered replicas replicas' clients clients' replica one.0 i 0 one.2.0 is one.1 are
