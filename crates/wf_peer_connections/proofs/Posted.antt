-- Messages are posted on one connection after the other.
use Rattle.std.proofs.Common.{◌≡◌, ◌⊎◌, ℕ, zero, suc, ◌+◌, ◌<◌, ◌≤◌, List, [], ◌∷◌, length, slice_get, slice_set, Some, length-set, refl, sym, ap, subst, ◌∙◌, inl, inr, arith}
use Rattle.std.proofs.lemmas.Option.{same_Some, slice_get_within}
use Rattle.wf_def.specs.Definition.{Definition}
use Rattle.wf_peer_connections.specs.Dials.{AreOfferedIf, ArePosted}
use Rattle.wf_peer_connections.specs.declared.dial.Dial.{Dial}
use Rattle.wf_model.specs.Message.{Message}
use Rattle.wf_sockets.specs.declared.connection.Connection.{Ghosts as Connection}
use Rattle.wf_wire.specs.Target.{includes}
use Rattle.wf_wire.specs.declared.target.Target.{Target}

-- the entry that was set is there
get_set_same : {A : Type 0} (xs : List A) (i : ℕ) (x y z : A) → slice_get xs i ≡ Some y → slice_get (slice_set xs i x) i ≡ Some z → x ≡ z
get_set_same [] i x y z e h = cc
get_set_same (w ∷ xs) zero x y z e h = same_Some x z h
get_set_same (w ∷ xs) (suc i) x y z e h = get_set_same xs i x y z e h

-- every other one is as it was
get_set_other : {A : Type 0} (xs : List A) (i j : ℕ) (x : A) → (j ≡ i → ⊥) → slice_get (slice_set xs i x) j ≡ slice_get xs j
get_set_other [] i j x differs = refl
get_set_other (z ∷ xs) zero zero x differs = absurd (differs refl)
get_set_other (z ∷ xs) zero (suc j) x differs = refl
get_set_other (z ∷ xs) (suc i) zero x differs = refl
get_set_other (z ∷ xs) (suc i) (suc j) x differs = get_set_other xs i j x (λ e. differs (ap suc e))

same_or_below : (j i : ℕ) → j < suc i → (j < i) ⊎ (j ≡ i)
same_or_below zero zero lt = inr refl
same_or_below zero (suc i) lt = inl (omega arith)
same_or_below (suc j) zero lt = absurd (omega (arith, lt))
same_or_below (suc j) (suc i) lt = elim (same_or_below j i (omega (arith, lt))) [ inl a ↦ inl (omega (arith, a)) | inr e ↦ inr (ap suc e) ]

module _ {C : Type 0} {connections : Connection C} (target : Target) (messages : List (Message Definition)) where
  -- They were offered to the nodes below this number; from it on nothing changed yet.
  pub record ArePostedBelow (i : ℕ) (before now : List (Dial C connections)) : Type 0 where
    pub as_many : length now ≡ length before
    pub below : (j : ℕ) (dial dial_now : Dial C connections) → j < i → slice_get before j ≡ Some dial → slice_get now j ≡ Some dial_now → AreOfferedIf (includes target j) messages dial dial_now
    pub above : (j : ℕ) → i ≤ j → slice_get now j ≡ slice_get before j

  pub posted_none : (dials : List (Dial C connections)) → ArePostedBelow 0 dials dials
  posted_none dials = record { as_many = refl; below = λ j dial dial_now lt at now. absurd (omega (arith, lt)); above = λ j le. refl }

  -- One connection more: it is still as it was at the beginning, so what was done to it since is
  -- what was done now.
  pub posted_more : (i : ℕ) (before now : List (Dial C connections)) (dial dial_after : Dial C connections) → ArePostedBelow i before now → slice_get now i ≡ Some dial → AreOfferedIf (includes target i) messages dial dial_after →
      ArePostedBelow (i + 1) before (slice_set now i dial_after)
  posted_more i before now dial dial_after are at offered = record {
    as_many = length-set now i dial_after ∙ are.as_many;
    below = λ j old new lt was is. elim (same_or_below j i (omega (arith, lt))) [
      | inl less ↦ are.below j old new less was (sym (get_set_other now i j dial_after (λ e. absurd (omega (arith, less, e)))) ∙ is)
      | inr e ↦
          let here : dial_after ≡ new = get_set_same now i dial_after dial new at (subst (λ k. slice_get (slice_set now i dial_after) k ≡ Some new) e is) in
          let there : dial ≡ old = same_Some dial old (sym at ∙ are.above i (omega arith) ∙ subst (λ k. slice_get before k ≡ Some old) e was) in
          subst (λ k. AreOfferedIf (includes target k) messages old new) (sym e)
          (subst (λ d. AreOfferedIf (includes target i) messages old d) here (subst (λ d. AreOfferedIf (includes target i) messages d dial_after) there offered))
    ];
    above = λ j le. get_set_other now i j dial_after (λ e. absurd (omega (arith, le, e))) ∙ are.above j (omega (arith, le));
  }

  pub posted_all : (i : ℕ) (before now : List (Dial C connections)) → length before ≤ i → ArePostedBelow i before now → ArePosted target messages before now
  posted_all i before now all are = record {
    as_many = are.as_many;
    each = λ j dial dial_now was is. are.below j dial dial_now (omega (arith, all, slice_get_within before j dial was)) was is;
  }
