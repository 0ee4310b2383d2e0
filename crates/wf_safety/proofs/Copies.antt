-- A tape of published records alone folds to a state without votes and promise.
use Rattle.std.proofs.Common.{◌≡◌, ℕ, suc, ◌+◌, List, [], ◌∷◌, ◌++◌, length, Some, None, refl, sym, subst, ◌∙◌, arith, append_assoc, append-nil, eq-eqb, length-append}
use Rattle.wf_model.specs.DurableState.{DurableState, Record, Published, nothing_stored, published, next_sequence, with_record, fits, fold_from, fold}
use Rattle.wf_model.specs.PutTheorems.{at_put}
use Rattle.wf_safety.specs.Replacement.{IsCopy, AreChosen, published_from, CopiedTapes}

-- a state, from which these records fold to one that is a copy too, with these definitions appended
record Appends {V : Type 0} (stored : DurableState V) (s : ℕ) (definitions : List V) : Type 0 where
  after : DurableState V
  folded : fold_from stored (published_from s definitions) ≡ Some after
  history : after.history ≡ stored.history ++ definitions
  copy : IsCopy after

module _ {V : Type 0} (stored : DurableState V) (copy : IsCopy stored) where
  published_copy : (s : ℕ) (d : V) → IsCopy (with_record stored (Published s d))
  unfolding with_record
  published_copy s d = record {
    no_votes = λ t. at_put (λ o. o ≡ None) stored.votes s None t (λ e. refl) (λ differs. copy.no_votes t);
    no_promise = copy.no_promise;
  }

  published_next : (s : ℕ) (d : V) → s ≡ next_sequence stored → suc s ≡ next_sequence (with_record stored (Published s d))
  unfolding with_record next_sequence published
  published_next s d e = let more : length (stored.history ++ d ∷ []) ≡ length stored.history + 1 = length-append stored.history (d ∷ []) in omega arith

  published_history : (s : ℕ) (d : V) (definitions : List V) → (with_record stored (Published s d)).history ++ definitions ≡ stored.history ++ (d ∷ definitions)
  unfolding with_record
  published_history s d definitions = append_assoc stored.history (d ∷ []) definitions

  fold_one : (s : ℕ) (d : V) (rest : List (Record V)) → s ≡ next_sequence stored → fold_from stored (Published s d ∷ rest) ≡ fold_from (with_record stored (Published s d)) rest
  unfolding fold_from fits
  fold_one s d rest e = rw (eq-eqb s (next_sequence stored) e) refl

appends : {V : Type 0} (definitions : List V) (stored : DurableState V) (s : ℕ) → IsCopy stored → s ≡ next_sequence stored → Appends stored s definitions
unfolding published_from fold_from
appends [] stored s copy e = record { after = stored; folded = refl; history = sym (append-nil stored.history); copy = copy }
appends (d ∷ definitions) stored s copy e =
    let rest = appends definitions (with_record stored (Published s d)) (suc s) (published_copy stored copy s d) (published_next stored copy s d e) in
    record {
      after = rest.after;
      folded = fold_one stored copy s d (published_from (suc s) definitions) e ∙ rest.folded;
      history = rest.history ∙ published_history stored copy s d definitions;
      copy = rest.copy;
    }

nothing_is_copy : {V : Type 0} → IsCopy {V = V} nothing_stored
unfolding nothing_stored
nothing_is_copy = record { no_votes = λ s. refl; no_promise = refl }

nothing_next : (V : Type 0) → 1 ≡ next_sequence {V = V} nothing_stored
unfolding nothing_stored next_sequence published
nothing_next V = refl

of_nothing : {V : Type 0} (definitions : List V) → nothing_stored.history ++ definitions ≡ definitions
unfolding nothing_stored
of_nothing definitions = refl

pub copied_tapes : (V : Type 0) → CopiedTapes V
unfolding fold
copied_tapes V = λ n sent definitions chosen.
    let all = appends definitions nothing_stored 1 nothing_is_copy (nothing_next V) in
    let same : all.after.history ≡ definitions = all.history ∙ of_nothing definitions in
    record {
      stored = all.after;
      folded = all.folded;
      history = same;
      chosen_alone = record { copy = all.copy; chosen = subst (AreChosen n sent) (sym same) chosen };
    }
