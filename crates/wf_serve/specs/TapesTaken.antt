-- The tapes of one folder, taken one after the other: whether each is sound, and no two contradict
-- each other.
use Rattle.std.specs.Prelude.{◌≡◌, ℕ, List, [], ◌∷◌, Option, Some, None, slice_get}
use Rattle.wf_def.specs.Definition.{Definition}
use Rattle.wf_model.specs.DurableState.{DurableState}
use Rattle.wf_node.specs.OpenedNode.{IsFoldOf, IsWhyBad}
use Rattle.wf_journal.specs.declared.open_error.OpenFault.TheVariants.{BadRecord}
use Rattle.wf_serve.specs.Difference.{DifferAt}
use Rattle.wf_serve.specs.TapeCheck.{AllAgree}
use Rattle.wf_serve.specs.declared.event.Cause.{Cause}
use Rattle.wf_serve.specs.declared.event.Cause.TheVariants.{TapeBad, TapesDiffer}

-- a tape: the number of its node, and its bytes
abbrev pub NumberedTape : Type 0
NumberedTape = ℕ × List ℕ

-- the records of each tape fold to the state beside it
unfoldable pub AreFolds : List (DurableState Definition) → List NumberedTape → Type 0
AreFolds [] [] = Unit {0}
AreFolds [] (tape ∷ tapes) = ⊥
AreFolds (state ∷ states) [] = ⊥
AreFolds (state ∷ states) (tape ∷ tapes) = IsFoldOf state tape.1 × AreFolds states tapes

-- Each tape is sound: its records fold. No two have different definitions as published under one
-- sequence.
pub record AreSound (tapes : List NumberedTape) : Type 0 where
  pub states : List (DurableState Definition)
  pub folds : AreFolds states tapes
  pub agree : AllAgree states

-- the tape of a node is one of them, with these bytes
abbrev pub HasTape : List NumberedTape → ℕ → List ℕ → Type 0
HasTape tapes number bytes = (i : ℕ) × (slice_get tapes i ≡ Some (number, bytes))

-- Two tapes are sound, and have different definitions as published under a sequence.
pub record AreDifferentAt (one other : List ℕ) (s : ℕ) : Type 0 where
  pub first : DurableState Definition
  pub first_folds : IsFoldOf first one
  pub second : DurableState Definition
  pub second_folds : IsFoldOf second other
  pub differ : DifferAt first.history second.history s

-- Why they aren't: a tape is bad at an offset, or two are different under a sequence.
abbrev pub IsTapeCause : List NumberedTape → Cause → Type 0
IsTapeCause tapes (TapeBad tape offset) = (bytes : List ℕ) × HasTape tapes tape bytes × IsWhyBad (BadRecord offset) bytes
IsTapeCause tapes (TapesDiffer s tape other) = (one another : List ℕ) × HasTape tapes tape one × HasTape tapes other another × AreDifferentAt one another s
IsTapeCause tapes _ = ⊥

-- each is sound, and no two contradict each other, or this is why they aren't
abbrev pub AreSoundOr : List NumberedTape → Option Cause → Type 0
AreSoundOr tapes None = AreSound tapes
AreSoundOr tapes (Some cause) = IsTapeCause tapes cause
