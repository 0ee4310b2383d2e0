-- Why a call of the folder of a node that runs fails, for the crate's own contracts.
use Rattle.std.specs.Prelude.{◌≡◌, ◌⊎◌, ℕ, ⊤, List, ◌∷◌, Option, Some, None}
use Rattle.std.specs.declared.io.ErrorKind.TheVariants.{InvalidData}
use Rattle.wf_folder.specs.NodeFile.{node_text}
use Rattle.wf_folder.specs.declared.node_file.NodeFile.{NodeFile}
use Rattle.wf_folder.specs.declared.presence.Presence.TheVariants.{Absent}
use Rattle.wf_membership.specs.declared.folder_error.FolderError.{FolderError}
use Rattle.wf_membership.specs.declared.folder_error.FolderError.TheVariants as errors
use Rattle.wf_rejoin.specs.JoiningText.{IsJoins, joins_text}
use Rattle.wf_rejoin.specs.declared.joining.Joining.{Joining}
use Rattle.wf_store.specs.Call.{Call, read, seen}
use Rattle.wf_store.specs.declared.fault.FolderFault.TheVariants as faults
use Rattle.wf_store.specs.declared.file_name.FileName.TheVariants.{Farm, Joins, NodeTape}
use Rattle.wf_voter.specs.Cause.{EndsWith, IsCausedBy, IsShownBy, ShowsNoVote, ShowsOtherFarm}
use Rattle.wf_voter.specs.declared.reopening.NotReopened.{NotReopened}
use Rattle.wf_voter.specs.declared.reopening.NotReopened.TheVariants as whys

-- ---- the file `farm`

-- it is the one that was written last, or a later one whose writing failed
abbrev pub IsOwn : NodeFile → NodeFile → (attempted : Option NodeFile) → Type 0
IsOwn there file attempted = (there ≡ file) ⊎ (attempted ≡ Some there)

-- the file `farm` was read, and is this one; None: it is neither
abbrev pub IsOwnFound : Option NodeFile → NodeFile → (attempted : Option NodeFile) → (old new : List Call) → Type 0
IsOwnFound (Some there) file attempted old new = IsOwn there file attempted × (new ≡ read Farm (Some (node_text there)) ∷ old)
IsOwnFound None file attempted old new = EndsWith (ShowsOtherFarm file attempted) old new

-- ---- the file `joins`

-- It was read, and says of this folder that it joins.
pub record ShowsJoining (joining : Joining) (call : Call) : Type 0 where
  pub bytes : List ℕ
  pub is : call ≡ read Joins (Some bytes)
  pub only : (other : Joining) → IsJoins other → bytes ≡ joins_text other → other ≡ joining

-- why the folder goes on joining, with so much published
abbrev pub IsWhyNotJoined : FolderError → (published : ℕ) → (old new : List Call) → Type 0
IsWhyNotJoined (errors.Store (faults.Unread named kind)) published old new =
    EndsWith (IsShownBy (errors.Store (faults.Unread named kind))) old new ⊎ ((named ≡ Joins) × (kind ≡ InvalidData) × EndsWith (ShowsNoVote published) old new)
IsWhyNotJoined error published old new = IsCausedBy error old new

-- ---- a tape is opened again

-- why it isn't, by the error of a call
abbrev pub why_of : FolderError → NotReopened
why_of (errors.Store faults.Memory) = whys.Memory
why_of error = whys.Folder error

-- why its start isn't counted
abbrev pub uncounted_of : FolderError → NotReopened
uncounted_of (errors.Store (faults.Unwritten file kind)) = whys.Uncounted kind
uncounted_of error = why_of error

-- why the tape of a node isn't opened
abbrev pub IsWhyTapeUnopened : NotReopened → (node : ℕ) → (old new : List Call) → Type 0
IsWhyTapeUnopened (whys.Folder error) node old new = IsCausedBy error old new
IsWhyTapeUnopened whys.NoTape node old new = EndsWith (λ call. call ≡ seen (NodeTape node) Absent) old new
IsWhyTapeUnopened whys.Memory node old new = ⊤
IsWhyTapeUnopened why node old new = ⊥
