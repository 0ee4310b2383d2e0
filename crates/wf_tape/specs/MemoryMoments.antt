-- Theorems about the moments of a tape in memory.
use Rattle.std.specs.Prelude.{ℕ, ◌≤◌, List, [], ◌∷◌, length}
use Rattle.std.proofs.Common.{inl, inr, le_refl, le_trans, le_of_lt, lt_irrefl, lt_of_lt_of_le}
use Rattle.wf_tape.specs.Tape.{LeavesNow, AreNested}
use Rattle.wf_tape.specs.MemoryTape.{TapeState, TapeValue, IsImageNow, IsLeftSince, WasLeft, state_of, moment_of}

-- no state stood at a moment that hasn't come
pub none_later : (states : List TapeState) (moment : ℕ) (image : List ℕ) → length states ≤ moment → WasLeft states moment image → ⊥
unfolding WasLeft
none_later [] moment image late left = left
none_later (state ∷ older) moment image late left = elim left [
  | inl now ↦ lt_irrefl (length older) (lt_of_lt_of_le late now.0)
  | inr before ↦ none_later older moment image (le_of_lt late) before
]

pub memory_now : (tape : TapeValue) → LeavesNow (IsImageNow tape) (IsLeftSince tape (moment_of tape))
unfolding WasLeft
memory_now tape = record {
  counts = λ image is. inl (le_refl (length tape.past), is);
  nothing_else = λ image left. elim left [
    | inl now ↦ now.1
    | inr before ↦ absurd (none_later tape.past (length tape.past) image (le_refl (length tape.past)) before)
  ];
}

left_earlier : (states : List TapeState) → AreNested (WasLeft states)
unfolding WasLeft
left_earlier [] moment later image before left = left
left_earlier (state ∷ older) moment later image before left = elim left [
  | inl now ↦ inl (le_trans before now.0, now.1)
  | inr past ↦ inr (left_earlier older moment later image before past)
]

pub memory_nested : (tape : TapeValue) → AreNested (IsLeftSince tape)
memory_nested tape = left_earlier (state_of tape ∷ tape.past)
