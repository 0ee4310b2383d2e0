-- One more client that was answered.
use Rattle.std.proofs.Common.{◌≡◌, ℕ, List, [], ◌∷◌, ◌++◌, Some, Vec, sym, ap, subst}
use Rattle.std.specs.declared.alloc.Global.{Global}
use Rattle.std.proofs.Math.Logic.{∥∥₁_map}
use Rattle.wf_client.specs.Client.{Client}
use Rattle.wf_client.specs.ResponseBuffer.{Outgoing}
use Rattle.wf_codec.specs.declared.message.Message.{Message}
use Rattle.wf_edge.specs.RequestEffect.{IsOutcome}
use Rattle.wf_edge.specs.declared.outcome.Outcome.{Outcome}
use Rattle.wf_node.specs.Node.{Node}
use Rattle.wf_visitors.specs.ServerReply.{nothing}
use Rattle.wf_voter.specs.Answer.{AreAnswered, IsProcessResponse}
use Rattle.wf_voter.specs.declared.voter.Voter.{Voter}
use Rattle.wf_tape.specs.declared.tape.Tape.{Ghosts as Tape}

module _ {T : Type 0} (tapes : Tape T) where
  pub none_answered : (befores : List (Voter T tapes × ℕ)) (clients : List (Client × ℕ)) (afters : List (Voter T tapes × ℕ)) → befores ≡ [] → clients ≡ [] → afters ≡ [] → ∥ AreAnswered tapes befores clients afters ∥₁
  unfolding AreAnswered
  none_answered befores clients afters b c a =
      subst (λ (xs : List (Voter T tapes × ℕ)). ∥ AreAnswered tapes xs clients afters ∥₁) (sym b)
      (subst (λ (xs : List (Client × ℕ)). ∥ AreAnswered tapes [] xs afters ∥₁) (sym c)
      (subst (λ (xs : List (Voter T tapes × ℕ)). ∥ AreAnswered tapes [] [] xs ∥₁) (sym a) ∣ tt ∣₁))

  append_one : (befores : List (Voter T tapes × ℕ)) (clients : List (Client × ℕ)) (afters : List (Voter T tapes × ℕ)) (before : Voter T tapes × ℕ) (client : Client × ℕ) (after : Voter T tapes × ℕ)
      → IsProcessResponse tapes before.0.process client.0.incoming.bytes client.0.outgoing.bytes after.0.process → AreAnswered tapes befores clients afters
      → AreAnswered tapes (befores ++ before ∷ []) (clients ++ client ∷ []) (afters ++ after ∷ [])
  unfolding AreAnswered
  append_one [] [] [] before client after is are = (is, tt)
  append_one [] [] (a ∷ afters) before client after is are = absurd are
  append_one [] (c ∷ clients) afters before client after is are = absurd are
  append_one (b ∷ befores) [] afters before client after is are = absurd are
  append_one (b ∷ befores) (c ∷ clients) [] before client after is are = absurd are
  append_one (b ∷ befores) (c ∷ clients) (a ∷ afters) before client after is are = (are.0, append_one befores clients afters before client after is are.1)

  pub one_more_answered : (befores befores' : List (Voter T tapes × ℕ)) (clients clients' : List (Client × ℕ)) (afters afters' : List (Voter T tapes × ℕ)) (before : Voter T tapes) (client : Client) (after : Voter T tapes) (i j k : ℕ)
      → IsProcessResponse tapes before.process client.incoming.bytes client.outgoing.bytes after.process
      → befores' ≡ befores ++ (before, i) ∷ [] → clients' ≡ clients ++ (client, j) ∷ [] → afters' ≡ afters ++ (after, k) ∷ []
      → ∥ AreAnswered tapes befores clients afters ∥₁ → ∥ AreAnswered tapes befores' clients' afters' ∥₁
  one_more_answered befores befores' clients clients' afters afters' before client after i j k is b c a are =
      subst (λ (xs : List (Voter T tapes × ℕ)). ∥ AreAnswered tapes xs clients' afters' ∥₁) (sym b)
      (subst (λ (xs : List (Client × ℕ)). ∥ AreAnswered tapes (befores ++ (before, i) ∷ []) xs afters' ∥₁) (sym c)
      (subst (λ (xs : List (Voter T tapes × ℕ)). ∥ AreAnswered tapes (befores ++ (before, i) ∷ []) (clients ++ (client, j) ∷ []) xs ∥₁) (sym a)
      (∥∥₁_map are (λ they. append_one befores clients afters (before, i) (client, j) (after, k) is they))))

  -- what came was read, and a response was written where nothing had been
  pub answered_as : (before after : Node T) (outputs : Vec Message Global) (outcome : Outcome) (left came : List ℕ) (old new : Outgoing) → left ≡ came → old ≡ nothing
      → IsOutcome tapes (Some left) (Some old.bytes) (Some new.bytes) before outputs after outcome → IsOutcome tapes (Some came) (Some []) (Some new.bytes) before outputs after outcome
  answered_as before after outputs outcome left came old new read none is =
      subst (λ (b : List ℕ). IsOutcome tapes (Some came) (Some b) (Some new.bytes) before outputs after outcome) (ap (λ (o : Outgoing). o.bytes) none)
      (subst (λ (b : List ℕ). IsOutcome tapes (Some b) (Some old.bytes) (Some new.bytes) before outputs after outcome) read is)
