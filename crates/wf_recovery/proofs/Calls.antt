-- A read of a tape, and a replacement after it.
use Rattle.std.proofs.Common.{◌≡◌, ◌∙◌, ◌≤◌, ℕ, Bool, true, false, List, drop, sym, subst, arith, inl, inr, le_trans}
use Rattle.std.specs.Prelude.{◌↔◌, IsTrue, Result, Ok, Err}
use Rattle.std.proofs.lemmas.Bool.{cases_lt}
use Rattle.wf_tape.specs.declared.fault.TapeFault.{TapeFault}
use Rattle.wf_tape.specs.declared.fault.TapeFault.TheVariants.{Device}
use Rattle.wf_tape.specs.Tape.{HasCause, HasRisen}
use Rattle.wf_recovery.specs.Unsynced.{IsUnsynced}

-- what isn't found in the bytes that were read isn't in the content
pub never_there : (content bytes shown : List ℕ) (offset : ℕ) (found : Bool) → bytes ≡ content → shown ≡ bytes → (IsTrue found ↔ IsUnsynced (drop offset shown)) → found ≡ false →
    IsUnsynced (drop offset content) → ⊥
never_there content bytes shown offset found read is decides none unsynced =
    let there : found ≡ true = decides.1 (subst (λ (t : List ℕ). IsUnsynced (drop offset t)) (sym (is ∙ read)) unsynced) in
    let clash : true ≡ false = sym there ∙ none in cc

-- A failure that was counted in the second call was counted since the first one began.
risen_on : (before mid now : ℕ) → before ≤ mid → mid ≤ now → HasRisen mid now → HasRisen before now
risen_on before mid now first second risen =
    elim risen [
      | inl rose ↦ inl (omega arith)
      | inr last ↦ elim (cases_lt before mid) [ inl rose ↦ inl (omega arith) | inr same ↦ inr (omega arith) ]
    ]

module _ {A B : Type 0} (before mid now : ℕ) (later : before ≤ mid) where
  pub cause_on : (second : Result A TapeFault) (x : B) → HasCause mid now second → HasCause {A = B} before now (Ok x)
  cause_on second x cause = record { later = le_trans later cause.later; device = λ clash. absurd cc }

  pub cause_on_err : (second : Result A TapeFault) (fault : TapeFault) → second ≡ Err fault → HasCause mid now second → HasCause {A = B} before now (Err fault)
  cause_on_err second fault is cause = record {
    later = le_trans later cause.later;
    device = λ failed. risen_on before mid now later cause.later (cause.device (let same : second ≡ Err Device = cc in same));
  }
