-- Time goes on over calls in turn.
use Rattle.std.specs.Prelude.{ℕ, List}
use Rattle.std.proofs.Common.{inl, inr, le_refl, le_trans}
use Rattle.wf_tape.specs.Tape.{Elapses, AreNested}

-- no call was made
pub time_stays : (now : ℕ) (since : ℕ → List ℕ → Type 0) → Elapses now now since since
time_stays now since = record {
  later = le_refl now;
  kept = λ moment image before left. left;
  nothing_else = λ moment image before left. inl left;
}

-- two calls in turn
pub time_on : (a b c : ℕ) (first second third : ℕ → List ℕ → Type 0) → AreNested third → Elapses a b first second → Elapses b c second third → Elapses a c first third
time_on a b c first second third nested one two = record {
  later = le_trans one.later two.later;
  kept = λ moment image before left. two.kept moment image (le_trans before one.later) (one.kept moment image before left);
  nothing_else = λ moment image before left. elim (two.nothing_else moment image (le_trans before one.later) left) [
    | inl earlier ↦ elim (one.nothing_else moment image before earlier) [
      | inl past ↦ inl past
      | inr inside ↦ inr (two.kept a image one.later inside)
    ]
    | inr inside ↦ inr (nested a b image one.later inside)
  ];
}
