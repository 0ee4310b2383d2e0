-- Theorems about the moments inside two calls of a tape.
use Rattle.std.specs.Prelude.{ℕ, ◌≤◌, List}
use Rattle.std.proofs.Common.{inl, inr}
use Rattle.wf_tape.specs.Tape.{LeavesNoOther, Elapses}
use Rattle.wf_journal.specs.Journal.{Follows, ReadsSame}

-- What may be left inside two calls may be left inside one of them.
pub inside_two : (a b c : ℕ) (second third : ℕ → List ℕ → Type 0) (P : List ℕ → Type 0) → a ≤ b → Elapses b c second third → ((image : List ℕ) → second a image → P image) → ((image : List ℕ) → third b image → P image) →
    (image : List ℕ) → third a image → P image
inside_two a b c second third P later two in_first in_second image left = elim (two.nothing_else a image later left) [
  | inl earlier ↦ in_first image earlier
  | inr inside ↦ in_second image inside
]

-- Inside an opening, which reads and then settles, each image reads as one from before.
pub inside_opened : (a b c : ℕ) (old mid : List ℕ → Type 0) (first second third : ℕ → List ℕ → Type 0) → Elapses a b first second → Elapses b c second third → LeavesNoOther old (second a) → LeavesNoOther old mid →
    Follows ReadsSame mid (third b) → Follows ReadsSame old (third a)
inside_opened a b c old mid first second third one two in_first no_other in_second =
    inside_two a b c second third (λ image. (earlier : List ℕ) × old earlier × ReadsSame earlier image) one.later two
    (λ image left. (image, in_first image left, λ records reads. reads))
    (λ image left. let earlier = in_second image left in (earlier.0, no_other earlier.0 earlier.1, earlier.2))
