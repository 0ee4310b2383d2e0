-- From client to client a replica goes on.
use Rattle.std.proofs.Common.{◌≡◌, ◌⊎◌, ℕ, List, [], ◌∷◌, ◌++◌, inl, inr, refl, sym, subst}
use Rattle.std.proofs.Math.Logic.{∥∥₁_map}
use Rattle.wf_replica.specs.Follower.{HasLearnedNothing}
use Rattle.wf_replica.specs.declared.follower.Follower.{Follower}
use Rattle.wf_client.specs.Client.{Client}
use Rattle.wf_replica_command.specs.Answer.{AreInOrder, IsResponse}
use Rattle.wf_replica_command.specs.Continuation.{IsLaterReplica}
use Rattle.wf_replica_command.specs.Heard.{Hears}
use Rattle.wf_replica_command.specs.declared.upstream.Upstream.{Upstream}
use Rattle.wf_replica_command.proofs.Continuation.{goes_on_twice, stays_same}
use Rattle.wf_replica_command.specs.declared.renderer.Renderer.{Renderer}
use Rattle.wf_sockets.specs.declared.connection.Connection.{Ghosts as Connection}
use Rattle.wf_tape.specs.declared.tape.Tape.{Ghosts as Tape}

module _ {T : Type 0} (tapes : Tape T) where
  pub none_in_order : (replicas : List (Renderer T tapes × ℕ)) (present : Follower T tapes) → replicas ≡ [] → ∥ AreInOrder tapes replicas present ∥₁
  unfolding AreInOrder
  none_in_order replicas present is = subst (λ (xs : List (Renderer T tapes × ℕ)). ∥ AreInOrder tapes xs present ∥₁) (sym is) ∣ tt ∣₁

  -- where the present one goes on
  later : (replicas : List (Renderer T tapes × ℕ)) (old new : Follower T tapes) → IsLaterReplica old new → AreInOrder tapes replicas old → AreInOrder tapes replicas new
  unfolding AreInOrder
  later [] old new on are = tt
  later (r ∷ []) old new on are = (goes_on_twice r.0.follower old new are.0 on, tt)
  later (r ∷ s ∷ replicas) old new on are = (are.0, later (s ∷ replicas) old new on are.1)

  still_in_order : (replicas : List (Renderer T tapes × ℕ)) (old new : Follower T tapes) → IsLaterReplica old new → ∥ AreInOrder tapes replicas old ∥₁ → ∥ AreInOrder tapes replicas new ∥₁
  still_in_order replicas old new on are = ∥∥₁_map are (λ they. later replicas old new on they)

  -- where the present one hears its sources
  pub still_heard : {N C L : Type 0} {connections : Connection C} (replicas : List (Renderer T tapes × ℕ)) (upstream upstream' : Upstream N C L connections) (old new : Follower T tapes) → Hears upstream old upstream' new → ∥ AreInOrder tapes replicas old ∥₁ →
      ∥ AreInOrder tapes replicas new ∥₁
  still_heard replicas upstream upstream' old new heard are = still_in_order replicas old new heard.goes_on are

  pub stays_in_order : (replicas : List (Renderer T tapes × ℕ)) (old new : Follower T tapes) → HasLearnedNothing old new → ∥ AreInOrder tapes replicas old ∥₁ → ∥ AreInOrder tapes replicas new ∥₁
  stays_in_order replicas old new same are = still_in_order replicas old new (stays_same old new same) are

  -- where the present replica answers one more client
  one_more : (replicas : List (Renderer T tapes × ℕ)) (replica : Renderer T tapes) (i : ℕ) (new : Follower T tapes) → IsLaterReplica replica.follower new →
      AreInOrder tapes replicas replica.follower → AreInOrder tapes (replicas ++ (replica, i) ∷ []) new
  unfolding AreInOrder
  one_more [] replica i new on are = (on, tt)
  one_more (r ∷ []) replica i new on are = (are.0, (on, tt))
  one_more (r ∷ s ∷ replicas) replica i new on are = (are.0, one_more (s ∷ replicas) replica i new on are.1)

  pub next_in_order : (replicas replicas' : List (Renderer T tapes × ℕ)) (replica : Renderer T tapes) (i : ℕ) (new : Follower T tapes) → replicas' ≡ replicas ++ (replica, i) ∷ [] →
      HasLearnedNothing replica.follower new → ∥ AreInOrder tapes replicas replica.follower ∥₁ → ∥ AreInOrder tapes replicas' new ∥₁
  next_in_order replicas replicas' replica i new is same are =
      subst (λ (xs : List (Renderer T tapes × ℕ)). ∥ AreInOrder tapes xs new ∥₁) (sym is)
      (∥∥₁_map are (λ they. one_more replicas replica i new (stays_same replica.follower new same) they))

  -- where nobody was answered
  pub kept : (before after : Renderer T tapes) → (after ≡ before) ⊎ HasLearnedNothing before.follower after.follower → HasLearnedNothing before.follower after.follower
  kept before after why = elim why [
    | inl is ↦ subst (λ (r : Renderer T tapes). HasLearnedNothing before.follower r.follower) (sym is) (record { list = refl; received = refl; answers = refl; read = refl })
    | inr same ↦ same
  ]

  -- where a client was answered by this replica
  pub in_order_by : (replicas replicas' : List (Renderer T tapes × ℕ)) (clients clients' : List (Client × ℕ)) (replica after : Renderer T tapes) (i : ℕ) → replicas' ≡ replicas ++ (replica, i) ∷ []
      → (client : Client) × (clients' ≡ clients ++ (client, 0) ∷ []) × (IsResponse tapes replica.follower client.incoming.bytes client.outgoing.bytes × HasLearnedNothing replica.follower after.follower)
      → ∥ AreInOrder tapes replicas replica.follower ∥₁ → ∥ AreInOrder tapes replicas' after.follower ∥₁
  in_order_by replicas replicas' clients clients' replica after i is one are = next_in_order replicas replicas' replica i after.follower is one.2.1 are
