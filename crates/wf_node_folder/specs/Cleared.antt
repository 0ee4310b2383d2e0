-- What `clear` did to its folder.
use Rattle.std.specs.Prelude.{◌≡◌, ◌⊎◌, ℕ, List, ◌∷◌, Some, None, Result, Ok, Err, replicate}
use Rattle.wf_folder.specs.NodeFile.{IsNodeFile, IsTextOf, node_text}
use Rattle.wf_folder.specs.declared.node_admission.NodeRejection.TheVariants as causes
use Rattle.wf_folder.specs.declared.node_file.NodeFile.{NodeFile}
use Rattle.wf_node_folder.specs.Fault.{IsFromSystem}
use Rattle.wf_node_folder.specs.declared.fault.CommandFault.{CommandFault}
use Rattle.wf_node_folder.specs.declared.fault.CommandFault.TheVariants as faults
use Rattle.wf_peer.specs.PeerProgressText.{peer_progress_text}
use Rattle.wf_store.specs.Call.{Call, OnlyReads, locked, read, replaced, unreplaced}
use Rattle.wf_store.specs.declared.file_name.FileName.TheVariants.{Farm, Heard}

-- The file `farm` was read, and is this node's file.
pub record HasReadFarmFile (file : NodeFile) (old new : List Call) : Type 0 where
  pub bytes : List ℕ
  pub calls : new ≡ read Farm (Some bytes) ∷ old
  pub is_text : IsTextOf bytes file
  pub sound : IsNodeFile file

-- the file without a suspension
abbrev pub without_suspension : NodeFile → NodeFile
without_suspension file = record file { suspension = None }

-- the text of `heard` where nothing was heard of any node
abbrev pub nothing_heard : List ℕ
nothing_heard = peer_progress_text (replicate 64 None)

-- the files were written: `heard` first, of nothing, and then `farm`, without a suspension and else
-- as it was
abbrev pub IsRewritten : NodeFile → List Call → List Call → Type 0
IsRewritten file old new = new ≡ replaced Farm (node_text (without_suspension file)) ∷ replaced Heard nothing_heard ∷ old

-- they weren't both: none was, or `heard` was, and of a file whose writing failed either may be
-- there
abbrev pub IsUnwritten : NodeFile → List Call → List Call → Type 0
IsUnwritten file old new =
    (new ≡ old) ⊎ ((new ≡ unreplaced Heard nothing_heard ∷ old) ⊎ ((new ≡ replaced Heard nothing_heard ∷ old)
    ⊎ (new ≡ unreplaced Farm (node_text (without_suspension file)) ∷ replaced Heard nothing_heard ∷ old)))

-- The folder was read, and then its files were written.
pub record IsCleared (old new : List Call) : Type 0 where
  pub file : NodeFile
  pub found : List Call
  pub is_found : HasReadFarmFile file old found
  pub written : IsRewritten file found new

-- The folder was read, and its files weren't both written.
pub record IsHalfCleared (old new : List Call) : Type 0 where
  pub file : NodeFile
  pub found : List Call
  pub is_found : HasReadFarmFile file old found
  pub unwritten : IsUnwritten file found new

-- it wasn't cleared: no file was changed, or not both were
abbrev pub IsUncleared : List Call → List Call → Type 0
IsUncleared old new = OnlyReads old new ⊎ IsHalfCleared old new

-- why it wasn't: there is no file `farm`, or a bad one, or the system failed
abbrev pub IsClearFault : CommandFault → Type 0
IsClearFault (faults.Rejected causes.NoFile) = Unit {0}
IsClearFault (faults.Rejected (causes.BadFile fault)) = Unit {0}
IsClearFault fault = IsFromSystem fault

-- What `clear` did: the folder was locked first, and cleared; or it ended with an error.
abbrev pub IsClearDone : List Call → List Call → Result (Unit {0}) CommandFault → Type 0
IsClearDone old new (Ok done) = IsCleared (locked ∷ old) new
IsClearDone old new (Err fault) = IsClearFault fault × (OnlyReads old new ⊎ IsHalfCleared (locked ∷ old) new)
