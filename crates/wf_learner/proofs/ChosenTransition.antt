-- The transition of a Chosen, in terms of a history's model.
use Rattle.std.proofs.Common.{◌≡◌, ℕ, ◌+◌, Bool, true, false, nat_lt, ◌==◌, List, length, refl, sym, subst}
use Rattle.wf_def.specs.Definition.{Definition}
use Rattle.wf_model.specs.DurableState.{DurableState, published, next_sequence, with_record}
use Rattle.wf_model.specs.VolatileState.{VolatileState}
use Rattle.wf_model.specs.Table.{store, on_chosen, only_sends, quiet}
use Rattle.wf_learner.specs.declared.history.Learned.{Learned}
use Rattle.wf_learner.specs.History.{with_chosen, learned_at, asked, IsChosenTransition}

-- for each outcome of the table's two tests
transition_history : (same : Definition → Definition → Bool) (stored : DurableState Definition) (volatile : VolatileState Definition) (s : ℕ) (d : Definition) (is_next is_later : Bool) →
    (s == length stored.history + 1) ≡ is_next → nat_lt (length stored.history + 1) s ≡ is_later →
    (store stored (on_chosen same stored volatile s d).entry).history ≡ with_chosen stored.history s d
unfolding on_chosen next_sequence published store with_record only_sends quiet
transition_history same stored volatile s d true is_later next later = rw next
transition_history same stored volatile s d false true next later = rw (next, later)
transition_history same stored volatile s d false false next later = rw (next, later)

transition_asks : (same : Definition → Definition → Bool) (stored : DurableState Definition) (volatile : VolatileState Definition) (s : ℕ) (d : Definition) (is_next is_later : Bool) →
    (s == length stored.history + 1) ≡ is_next → nat_lt (length stored.history + 1) s ≡ is_later →
    (on_chosen same stored volatile s d).messages ≡ asked (learned_at stored.history s)
unfolding on_chosen next_sequence published only_sends quiet
transition_asks same stored volatile s d true is_later next later = rw next
transition_asks same stored volatile s d false true next later = rw (next, later)
transition_asks same stored volatile s d false false next later = rw (next, later)

chosen_transition : (old : List Definition) (s : ℕ) (d : Definition) → IsChosenTransition old s d (with_chosen old s d) (learned_at old s)
chosen_transition old s d = record {
  history = λ same stored volatile is.
      subst (λ (h : List Definition). (store stored (on_chosen same stored volatile s d).entry).history ≡ with_chosen h s d) is
      (transition_history same stored volatile s d (s == length stored.history + 1) (nat_lt (length stored.history + 1) s) refl refl);
  asks = λ same stored volatile is.
      subst (λ (h : List Definition). (on_chosen same stored volatile s d).messages ≡ asked (learned_at h s)) is
      (transition_asks same stored volatile s d (s == length stored.history + 1) (nat_lt (length stored.history + 1) s) refl refl);
}

-- the result of learning, and the definitions after that, are the transition's
pub chosen_transition_as : (old : List Definition) (s : ℕ) (d : Definition) (new : List Definition) (learned : Learned) →
    new ≡ with_chosen old s d → learned ≡ learned_at old s → IsChosenTransition old s d new learned
chosen_transition_as old s d new learned grown validated =
    subst (λ (l : Learned). IsChosenTransition old s d new l) (sym validated)
    (subst (λ (definitions : List Definition). IsChosenTransition old s d definitions (learned_at old s)) (sym grown) (chosen_transition old s d))
