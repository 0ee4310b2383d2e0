-- A function that is changed at one argument.
use Rattle.std.proofs.Common.{◌≡◌, ℕ, Option, refl, sym, subst, inl, inr, eq-eqb, ne_eqb}
use Rattle.std.proofs.lemmas.Bool.{cases_eq}
use Rattle.wf_model.specs.DurableState.{put}

pub put-same : {A : Type 0} (f : ℕ → Option A) (s : ℕ) (x : Option A) (t : ℕ) → t ≡ s → put f s x t ≡ x
unfolding put
put-same f s x t e = rw (eq-eqb t s e) refl

pub put-other : {A : Type 0} (f : ℕ → Option A) (s : ℕ) (x : Option A) (t : ℕ) → (t ≡ s → ⊥) → put f s x t ≡ f t
unfolding put
put-other f s x t differs = rw (ne_eqb t s differs) refl

-- a property of the new value, and of each old one, holds at every argument
pub at_put : {A : Type 0} (P : Option A → Type 0) (f : ℕ → Option A) (s : ℕ) (x : Option A) (t : ℕ) → (t ≡ s → P x) → ((t ≡ s → ⊥) → P (f t)) → P (put f s x t)
at_put P f s x t new old =
    elim (cases_eq t s) [ inl e ↦ subst P (sym (put-same f s x t e)) (new e) | inr differs ↦ subst P (sym (put-other f s x t differs)) (old differs) ]
