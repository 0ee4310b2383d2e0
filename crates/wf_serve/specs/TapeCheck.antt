-- The tapes of a folder, read before any of them is opened, by the calls of the folder, the latest
-- first.
use Rattle.std.specs.Prelude.{◌≡◌, ℕ, zero, suc, List, [], ◌∷◌, Some, slice_get, slice_index_or}
use Rattle.wf_def.specs.Definition.{Definition}
use Rattle.wf_folder.specs.declared.presence.Presence.{Presence}
use Rattle.wf_folder.specs.declared.presence.Presence.TheVariants.{Absent, Empty, Written}
use Rattle.wf_model.specs.DurableState.{DurableState}
use Rattle.wf_node.specs.OpenedNode.{IsFoldOf}
use Rattle.wf_serve.specs.Difference.{Agree}
use Rattle.wf_store.specs.Call.{Call, read}
use Rattle.wf_store.specs.declared.file_name.FileName.TheVariants.{NodeTape}

-- a tape's bytes: they were read, or it has none, and then it wasn't
abbrev pub IsTapeRead : Presence → ℕ → List ℕ → List Call → List Call → Type 0
IsTapeRead Written number bytes old new = new ≡ read (NodeTape number) (Some bytes) ∷ old
IsTapeRead Empty number bytes old new = (bytes ≡ []) × (new ≡ old)
IsTapeRead Absent number bytes old new = (bytes ≡ []) × (new ≡ old)

-- The next tape was read, and its records fold to this.
pub record IsNextRead (presence : Presence) (number : ℕ) (stored : DurableState Definition) (old new : List Call) : Type 0 where
  pub bytes : List ℕ
  pub read : IsTapeRead presence number bytes old new
  pub folds : IsFoldOf stored bytes

-- The first tapes were read in turn, and their records fold to these states, the last one's first.
unfoldable pub AreTapesRead : List Presence → ℕ → List (DurableState Definition) → List Call → List Call → Type 0
AreTapesRead tapes zero states old new = (states ≡ []) × (new ≡ old)
AreTapesRead tapes (suc number) [] old new = ⊥
AreTapesRead tapes (suc number) (last ∷ states) old new =
    (middle : List Call) × AreTapesRead tapes number states old middle × IsNextRead (slice_index_or tapes number Absent) number last middle new

-- no two of them have published different definitions under one sequence
abbrev pub AllAgree : List (DurableState Definition) → Type 0
AllAgree states = (i j : ℕ) (one other : DurableState Definition) → slice_get states i ≡ Some one → slice_get states j ≡ Some other → Agree one.history other.history

-- The tapes of n nodes were read, and agree.
pub record AreTapesChecked (n : ℕ) (tapes : List Presence) (old new : List Call) : Type 0 where
  pub states : List (DurableState Definition)
  pub read : AreTapesRead tapes n states old new
  pub agree : AllAgree states
