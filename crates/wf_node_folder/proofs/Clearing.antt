-- The calls of `clear`, one after the other.
use Rattle.std.proofs.Common.{◌≡◌, ◌⊎◌, ◌∙◌, ℕ, List, ◌∷◌, ap, inl, inr, subst}
use Rattle.std.specs.Prelude.{Option, Some, None, Result, Ok, Err, OnErr, OnOk, IfErr, replicate}
use Rattle.wf_folder.specs.NodeFile.{IsNodeFile, node_text}
use Rattle.wf_folder.specs.declared.node_admission.NodeFound.TheVariants as finds
use Rattle.wf_folder.specs.declared.node_file.NodeFile.{NodeFile}
use Rattle.wf_node_folder.specs.Cleared.{HasReadFarmFile, IsClearDone, IsClearFault, IsCleared, IsHalfCleared, IsRewritten, IsUncleared, IsUnwritten, nothing_heard, without_suspension}
use Rattle.wf_node_folder.specs.Folder.{IsFarmFound, IsFoundIn}
use Rattle.wf_node_folder.specs.declared.fault.CommandFault.{CommandFault}
use Rattle.wf_node_folder.specs.declared.fault.CommandFault.TheVariants as faults
use Rattle.wf_peer.specs.PeerProgressText.{peer_progress_text}
use Rattle.wf_peer.specs.declared.heard.Heard.{Heard as HeardOfNode}
use Rattle.wf_store.specs.Call.{Call, OnlyReads, locked, read, replaced, unreplaced}
use Rattle.wf_store.specs.CallTheorems.{reads_both}
use Rattle.wf_store.specs.declared.fault.FolderFault.{FolderFault}
use Rattle.wf_store.specs.declared.file_name.FileName.TheVariants.{Farm, Heard}

-- ---- the two files

-- `heard` wasn't written
pub not_heard : (file : NodeFile) (heard : List (Option HeardOfNode)) (old new : List Call) → heard ≡ replicate 64 None → (new ≡ old) ⊎ (new ≡ unreplaced Heard (peer_progress_text heard) ∷ old) → IsUnwritten file old new
not_heard file heard old new none is = elim is [
  | inl same ↦ inl same
  | inr at ↦ inr (inl (at ∙ ap (λ (h : List (Option HeardOfNode)). unreplaced Heard (peer_progress_text h) ∷ old) none))
]

-- it was, and `farm` wasn't
pub heard_alone : (file cleared : NodeFile) (old mid new : List Call) → mid ≡ replaced Heard nothing_heard ∷ old → cleared ≡ without_suspension file → (new ≡ mid) ⊎ (new ≡ unreplaced Farm (node_text cleared) ∷ mid)
    → IsUnwritten file old new
heard_alone file cleared old mid new first cleared_is is = elim is [
  | inl same ↦ inr (inr (inl (same ∙ first)))
  | inr at ↦ inr (inr (inr (at ∙ ap (λ (calls : List Call). unreplaced Farm (node_text cleared) ∷ calls) first
      ∙ ap (λ (f : NodeFile). unreplaced Farm (node_text f) ∷ replaced Heard nothing_heard ∷ old) cleared_is)))
]

-- both were
pub rewritten : (file cleared : NodeFile) (old mid new : List Call) → mid ≡ replaced Heard nothing_heard ∷ old → cleared ≡ without_suspension file → new ≡ replaced Farm (node_text cleared) ∷ mid
    → IsRewritten file old new
rewritten file cleared old mid new first is second =
    second ∙ ap (λ (calls : List Call). replaced Farm (node_text cleared) ∷ calls) first
    ∙ ap (λ (f : NodeFile). replaced Farm (node_text f) ∷ replaced Heard nothing_heard ∷ old) is

-- ---- the folder

has_read : (file : NodeFile) (old new : List Call) (bytes : Option (List ℕ)) → new ≡ read Farm bytes ∷ old → IsFoundIn bytes (finds.File file) → IsNodeFile file → HasReadFarmFile file old new
has_read file old new None is found sound = absurd found
has_read file old new (Some text) is found sound = record { bytes = text; calls = is; is_text = found; sound = sound }

pub is_read : (file : NodeFile) (old new : List Call) → IsFarmFound (finds.File file) old new → IsNodeFile file → HasReadFarmFile file old new
is_read file old new is sound = has_read file old new is.bytes is.calls is.is sound

-- it has no such file
pub not_read : (old new : List Call) → OnlyReads old new → IsUncleared old new
not_read old new reads = inl reads

pub not_written : (file : NodeFile) (old mid new : List Call) → HasReadFarmFile file old mid → IsUnwritten file mid new → IsUncleared old new
not_written file old mid new is unwritten = inr (record { file = file; found = mid; is_found = is; unwritten = unwritten })

pub written : (file : NodeFile) (old mid new : List Call) → HasReadFarmFile file old mid → IsRewritten file mid new → IsCleared old new
written file old mid new is rewritten = record { file = file; found = mid; is_found = is; written = rewritten }

-- it can't be locked
pub not_locked : (old new : List Call) (fault : FolderFault) → OnlyReads old new → IsClearDone old new (Err (faults.Folder fault))
not_locked old new fault reads = (tt, inl reads)

-- it was locked, and then cleared, or not
pub locked_first : (old held new : List Call) (result : Result (Unit {0}) CommandFault) → held ≡ locked ∷ old → OnlyReads old held → OnOk result (IsCleared held new) → OnErr result (IsUncleared held new)
    → IfErr result IsClearFault → IsClearDone old new result
locked_first old held new (Ok done) is reads cleared left fault = subst (λ (calls : List Call). IsCleared calls new) is cleared
locked_first old held new (Err why) is reads cleared left fault = (
  fault,
  elim left [
    | inl only ↦ inl (reads_both old held new reads only)
    | inr half ↦ inr (subst (λ (calls : List Call). IsHalfCleared calls new) is half)
  ],
)
