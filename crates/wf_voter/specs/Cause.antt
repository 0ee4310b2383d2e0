-- Why a call of a node's folder fails: an error says what the last of the folder's calls showed.
use Rattle.std.specs.Prelude.{◌≡◌, ◌⊎◌, ◌≤◌, ℕ, ⊤, false, List, ◌∷◌, Option, Some, IsSome}
use Rattle.std.specs.declared.io.ErrorKind.TheVariants.{InvalidData}
use Rattle.wf_folder.specs.NodeFile.{last_start, node_text}
use Rattle.wf_folder.specs.declared.node_file.NodeFile.{NodeFile}
use Rattle.wf_folder.specs.declared.presence.Presence.TheVariants.{Absent}
use Rattle.wf_membership.specs.declared.folder_error.FolderError.{FolderError}
use Rattle.wf_membership.specs.declared.folder_error.FolderError.TheVariants as errors
use Rattle.wf_rejoin.specs.Joining.{MayVote}
use Rattle.wf_rejoin.specs.JoiningText.{IsJoins, joins_text}
use Rattle.wf_rejoin.specs.declared.joining.Joining.{Joining}
use Rattle.wf_store.specs.Call.{Call, IsAfter, compared, failed, read, seen}
use Rattle.wf_store.specs.declared.call_kind.CallKind.{CallKind}
use Rattle.wf_store.specs.declared.call_kind.CallKind.TheVariants as kinds
use Rattle.wf_store.specs.declared.fault.FolderFault.TheVariants as faults
use Rattle.wf_store.specs.declared.file_name.FileName.{FileName}
use Rattle.wf_store.specs.declared.file_name.FileName.TheVariants.{Farm, Joins, NodeTape}
use Rattle.wf_voter.specs.declared.reopening.NotReopened.{NotReopened}
use Rattle.wf_voter.specs.declared.reopening.NotReopened.TheVariants as whys

-- Calls came after these, and the last of them is such a one.
pub record EndsWith (Is : Call → Type 0) (old new : List Call) : Type 0 where
  pub last : Call
  pub earlier : List Call
  pub after : IsAfter old earlier
  pub calls : new ≡ last ∷ earlier
  pub is : Is last

-- ---- what the system answered

-- a call failed
abbrev pub IsFailing : CallKind → Type 0
IsFailing kinds.Fails = ⊤
IsFailing (kinds.FailsAt file) = ⊤
IsFailing kind = ⊥

-- it failed at this file
abbrev pub IsFailingAt : FileName → CallKind → Type 0
IsFailingAt file (kinds.FailsAt named) = named ≡ file
IsFailingAt file kind = ⊥

-- The error is what a call showed. A file isn't written either where the one that is there can't be
-- read.
abbrev pub IsShownBy : FolderError → Call → Type 0
IsShownBy errors.Other call = call ≡ compared false
IsShownBy (errors.Store (faults.NoFolder kind)) call = call ≡ failed
IsShownBy (errors.Store (faults.Unread file kind)) call = call ≡ failed
IsShownBy (errors.Store (faults.Unopened file)) call = call ≡ failed
IsShownBy (errors.Store (faults.Unwritten file kind)) call = (call ≡ failed) ⊎ IsFailingAt file call.kind
IsShownBy (errors.Store fault) call = ⊥

-- it is what the last call showed; an allocation may fail at any time
abbrev pub IsCausedBy : FolderError → (old new : List Call) → Type 0
IsCausedBy (errors.Store faults.Memory) old new = ⊤
IsCausedBy error old new = EndsWith (IsShownBy error) old new

-- ---- what its files say

-- The file `farm` is neither the one that was written last, nor a later one whose writing failed.
pub record ShowsOtherFarm (file : NodeFile) (attempted : Option NodeFile) (call : Call) : Type 0 where
  pub bytes : Option (List ℕ)
  pub is : call ≡ read Farm bytes
  pub not_last : ¬ (bytes ≡ Some (node_text file))
  pub not_attempted : (tried : NodeFile) → attempted ≡ Some tried → ¬ (bytes ≡ Some (node_text tried))

-- The file `joins` says of no folder that it joins.
pub record ShowsNoJoining (call : Call) : Type 0 where
  pub bytes : Option (List ℕ)
  pub is : call ≡ read Joins bytes
  pub none : (joining : Joining) → IsJoins joining → ¬ (bytes ≡ Some (joins_text joining))

-- It says of no folder that it joins and may vote, with so much published.
pub record ShowsNoVote (published : ℕ) (call : Call) : Type 0 where
  pub bytes : Option (List ℕ)
  pub is : call ≡ read Joins bytes
  pub none : (joining : Joining) → IsJoins joining → bytes ≡ Some (joins_text joining) → ¬ MayVote joining published

-- ---- the errors of each call

-- why the file `farm` isn't written
abbrev pub IsWhyFarmUnwritten : FolderError → NodeFile → (attempted : Option NodeFile) → (old new : List Call) → Type 0
IsWhyFarmUnwritten (errors.Store (faults.Unwritten named kind)) file attempted old new =
    EndsWith (IsShownBy (errors.Store (faults.Unwritten named kind))) old new ⊎ ((named ≡ Farm) × (kind ≡ InvalidData) × EndsWith (ShowsOtherFarm file attempted) old new)
IsWhyFarmUnwritten error file attempted old new = IsCausedBy error old new

-- why the file `joins` isn't told a step
abbrev pub IsWhyUntold : FolderError → (old new : List Call) → Type 0
IsWhyUntold (errors.Store (faults.Unread named kind)) old new = EndsWith (IsShownBy (errors.Store (faults.Unread named kind))) old new ⊎ ((named ≡ Joins) × (kind ≡ InvalidData) × EndsWith ShowsNoJoining old new)
IsWhyUntold error old new = IsCausedBy error old new

-- why a folder goes on joining: also, where a writing of the file `farm` failed
abbrev pub IsWhyJoining : FolderError → NodeFile → (attempted : Option NodeFile) → (old new : List Call) → Type 0
IsWhyJoining (errors.Store (faults.Unwritten named kind)) file attempted old new =
    EndsWith (IsShownBy (errors.Store (faults.Unwritten named kind))) old new ⊎ ((named ≡ Farm) × (kind ≡ InvalidData) × (IsSome attempted ⊎ EndsWith (ShowsOtherFarm file attempted) old new))
IsWhyJoining (errors.Store (faults.Unread named kind)) file attempted old new =
    EndsWith (IsShownBy (errors.Store (faults.Unread named kind))) old new ⊎ ((named ≡ Joins) × (kind ≡ InvalidData) × EndsWith (ShowsNoVote file.known.reach.published) old new)
IsWhyJoining error file attempted old new = IsCausedBy error old new

-- why a node that is halted stays so, by its folder, which counts so many starts
abbrev pub IsWhyHalted : NotReopened → (starts : ℕ) → NodeFile → (attempted : Option NodeFile) → (old new : List Call) → Type 0
IsWhyHalted (whys.Folder error) starts file attempted old new = IsCausedBy error old new
IsWhyHalted whys.OtherFarm starts file attempted old new = EndsWith (ShowsOtherFarm file attempted) old new
IsWhyHalted whys.NoTape starts file attempted old new = EndsWith (λ call. call ≡ seen (NodeTape file.node) Absent) old new
IsWhyHalted (whys.Uncounted kind) starts file attempted old new = EndsWith (λ call. IsFailing call.kind) old new ⊎ ((kind ≡ InvalidData) × EndsWith (ShowsOtherFarm file attempted) old new)
IsWhyHalted whys.NoFurtherStart starts file attempted old new = last_start ≤ starts
IsWhyHalted whys.Memory starts file attempted old new = ⊤
IsWhyHalted why starts file attempted old new = ⊥

-- or by what its tape holds
abbrev pub IsWhyNoNextRun : NotReopened → (starts : ℕ) → NodeFile → (attempted : Option NodeFile) → (old new : List Call) → Type 0
IsWhyNoNextRun (whys.Tape fault) starts file attempted old new = ⊤
IsWhyNoNextRun why starts file attempted old new = IsWhyHalted why starts file attempted old new
