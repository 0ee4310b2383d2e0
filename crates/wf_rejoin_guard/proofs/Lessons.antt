-- A stored state that has only learned what is published: it stays so by each step that learns.
use Rattle.std.proofs.Common.{◌≡◌, ℕ, ◌+◌, ◌==◌, nat_lt, Bool, true, false, List, length, Option, Some, None, refl, sym, subst, ◌∙◌, inl, inr, eqb-true}
use Rattle.wf_ballot.specs.Sequence.{last_sequence}
use Rattle.wf_model.specs.Chosen.{IsIn}
use Rattle.wf_model.specs.DurableState.{DurableState, Tried, Published, nothing_stored, published, next_sequence, definition_at, put, with_record}
use Rattle.wf_model.specs.Message.{Message, Chosen, Vote}
use Rattle.wf_model.specs.Table.{store, stores, quiet, only_sends, begin_at, ask_votes, lead, propose_by, round_known, running_transition, on_propose, on_retry, on_catch_up, on_chosen}
use Rattle.wf_model.specs.VolatileState.{Proposing, Idle, Running, Won, Overtaken, Leadership, VolatileState, leading_at}
use Rattle.wf_safety.specs.Replacement.{IsCopy}
use Rattle.wf_rejoin_guard.proofs.Lists.{last_or_at, none_at}

module _ {V : Type 0} (sent : List (Message V)) where
  -- it has published definitions alone, and these messages say each of them
  pub record IsLearned (stored : DurableState V) : Type 0 where
    pub copy : IsCopy stored
    pub said : (s : ℕ) (d : V) → definition_at stored.history s ≡ Some d → IsIn (Chosen s d) sent

  pub nothing_learned : IsLearned nothing_stored
  unfolding nothing_stored
  nothing_learned = record { copy = record { no_votes = λ s. refl; no_promise = refl }; said = λ s d at. absurd (none_at s d at) }

  none_put : (votes : ℕ → Option (Vote V)) (s t : ℕ) (here : Bool) → (t == s) ≡ here → votes t ≡ None → put votes s None t ≡ None
  unfolding put
  none_put votes s t true e none = rw e refl
  none_put votes s t false e none = rw e none

  said_last : (s t : ℕ) (d e : V) → t ≡ s → d ≡ e → IsIn (Chosen s d) sent → IsIn (Chosen t e) sent
  said_last s t d e same equal said = subst (λ c. IsIn (Chosen t c) sent) equal (subst (λ k. IsIn (Chosen k d) sent) (sym same) said)

  said_more : (stored : DurableState V) (s : ℕ) (d : V) → IsLearned stored → s ≡ length stored.history + 1 → IsIn (Chosen s d) sent → (t : ℕ) (e : V) →
      definition_at (with_record stored (Published s d)).history t ≡ Some e → IsIn (Chosen t e) sent
  unfolding with_record
  said_more stored s d learned next said t e at = elim (last_or_at stored.history t d e at) [
    | inl before ↦ learned.said t e before
    | inr here ↦ said_last s t d e (here.0 ∙ sym next) here.1 said
  ]

  -- one more is published
  learned_more : (stored : DurableState V) (s : ℕ) (d : V) → IsLearned stored → s ≡ next_sequence stored → IsIn (Chosen s d) sent → IsLearned (with_record stored (Published s d))
  unfolding with_record next_sequence published
  learned_more stored s d learned next said = record {
    copy = record { no_votes = λ t. none_put stored.votes s t (t == s) refl (learned.copy.no_votes t); no_promise = learned.copy.no_promise };
    said = said_more stored s d learned next said;
  }

  module _ (stored : DurableState V) (volatile : VolatileState V) (learned : IsLearned stored) where
    -- a round is stored at most
    tried_learned : (round : ℕ) → IsLearned (with_record stored (Tried round))
    unfolding with_record
    tried_learned round = record { copy = record { no_votes = learned.copy.no_votes; no_promise = learned.copy.no_promise }; said = learned.said }

    begun_learned : (me : ℕ) (own : V) (round : ℕ) → IsLearned (store stored (begin_at me stored own round).entry)
    unfolding begin_at store stores
    begun_learned me own round = tried_learned round

    proposed_by : (me : ℕ) (leadership : Option (Leadership V)) (own : V) → IsLearned (store stored (propose_by me stored leadership own).entry)
    unfolding propose_by lead ask_votes only_sends store
    proposed_by me None own = begun_learned me own (stored.tried + 1)
    proposed_by me (Some leadership) own = learned

    pub proposed_learned : (me : ℕ) (own : V) → IsLearned (store stored (on_propose me stored volatile own).entry)
    unfolding on_propose
    proposed_learned me own = proposed_by me (leading_at volatile.leadership (next_sequence stored)) own

    retried_by : (me : ℕ) (proposing : Proposing V) → IsLearned (store stored (running_transition volatile proposing (λ p. begin_at me stored p.own (round_known stored p + 1))).entry)
    unfolding quiet store
    retried_by me Idle = learned
    retried_by me (Running p) = begun_learned me p.own (round_known stored p + 1)
    retried_by me (Won s) = learned
    retried_by me (Overtaken s) = learned

    pub retried_learned : (me : ℕ) → IsLearned (store stored (on_retry me stored volatile).entry)
    unfolding on_retry
    retried_learned me = retried_by me volatile.proposing

    asked_by : (more : Bool) → nat_lt (published stored) last_sequence ≡ more → IsLearned (store stored (on_catch_up stored volatile).entry)
    unfolding on_catch_up store only_sends quiet
    asked_by true e = rw e learned
    asked_by false e = rw e learned

    pub asked_learned : IsLearned (store stored (on_catch_up stored volatile).entry)
    asked_learned = asked_by (nat_lt (published stored) last_sequence) refl

  module _ (same : V → V → Bool) (stored : DurableState V) (volatile : VolatileState V) (learned : IsLearned stored) where
    chosen_by : (s : ℕ) (d : V) (is_next is_later : Bool) → (s == next_sequence stored) ≡ is_next → nat_lt (next_sequence stored) s ≡ is_later → IsIn (Chosen s d) sent →
        IsLearned (store stored (on_chosen same stored volatile s d).entry)
    unfolding on_chosen store only_sends quiet
    chosen_by s d true is_later e h said = rw e (learned_more stored s d learned (eqb-true s (next_sequence stored) e) said)
    chosen_by s d false true e h said = rw (e, h) learned
    chosen_by s d false false e h said = rw (e, h) learned

    pub chosen_learned : (s : ℕ) (d : V) → IsIn (Chosen s d) sent → IsLearned (store stored (on_chosen same stored volatile s d).entry)
    chosen_learned s d said = chosen_by s d (s == next_sequence stored) (nat_lt (next_sequence stored) s) refl refl said
