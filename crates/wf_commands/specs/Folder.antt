-- What is written of a folder's tapes.
use Rattle.std.specs.Prelude.{◌≡◌, ◌≤◌, ◌⊎◌, ◌++◌, ℕ, zero, suc, Bool, true, false, List, [], ◌∷◌, codes, decimal, Option, Some, None, Result, length, slice_index_or}
use Rattle.std.specs.declared.io.ErrorKind.{ErrorKind}
use Rattle.std.specs.declared.io.ErrorKind.TheVariants as errors
use Rattle.wf_folder.specs.Admission.{is_there}
use Rattle.wf_folder.specs.declared.presence.Presence.{Presence}
use Rattle.wf_folder.specs.declared.presence.Presence.TheVariants.{Absent}
use Rattle.wf_folder.specs.declared.node_file.NodeFile.{NodeFile}
use Rattle.wf_listing.specs.Listing.{IsListing}
use Rattle.wf_listing.specs.TapeBytes.{most_tape_bytes}
use Rattle.wf_listing.specs.declared.fault.TapeReadFault.{TapeReadFault}
use Rattle.wf_listing.specs.declared.fault.TapeReadFault.TheVariants as unreads
use Rattle.wf_serve.specs.LongestTape.{HasTakenTapes}
use Rattle.wf_serve.specs.Start.{IsSurveyed}
use Rattle.wf_serve.specs.TapesTaken.{NumberedTape}
use Rattle.wf_serve.specs.declared.survey.Survey.{Survey}
use Rattle.wf_serve.specs.declared.tape_check.TapeCheck.{TapeCheck}
use Rattle.wf_store.specs.Call.{Call, OnlyReads, read}
use Rattle.wf_store.specs.declared.file_name.FileName.TheVariants.{NodeTape}
use Rattle.wf_commands.specs.Contents.{Contents}
use Rattle.wf_commands.specs.FolderEnd.{IsLastLine, IsOwnerRead, IsStateOf, own_tapes, rejection_line}
use Rattle.wf_commands.specs.Run.{IsListed, IsMapWritten, IsTapeWriting}
use Rattle.wf_commands.specs.declared.fault.RunFault.{RunFault}
use Rattle.wf_commands.specs.declared.folder_state.FolderState.{FolderState}

-- the line with the name of a node's tape
abbrev pub tape_line : ℕ → List ℕ
tape_line number = codes "node-" ++ decimal number ++ codes ".tape\n"

-- The listing of bytes was appended, after a line with the name of a tape.
pub record IsNamedListing (bytes : List ℕ) (number : ℕ) (old new : List ℕ) : Type 0 where
  pub listing : List ℕ
  pub listed : IsListing bytes listing
  pub is : new ≡ old ++ (tape_line number ++ listing)

-- A tape of the folder was read, and is no longer than a tape may be; the listing of just these
-- bytes was appended, after a line with its name.
pub record IsTapeListed (number : ℕ) (bytes : List ℕ) (calls later : List Call) (old new : List ℕ) : Type 0 where
  pub call : later ≡ read (NodeTape number) (Some bytes) ∷ calls
  pub short : length bytes ≤ most_tape_bytes
  pub named : IsNamedListing bytes number old new

-- what a tape appends that is there, and one that isn't, and which tapes are listed before and
-- after, the latest first
abbrev pub IsNextTape : ℕ → Bool → List NumberedTape → List NumberedTape → List Call → List Call → List ℕ → List ℕ → Type 0
IsNextTape number true before after calls later old new = (bytes : List ℕ) × IsTapeListed number bytes calls later old new × (after ≡ (number, bytes) ∷ before)
IsNextTape number false before after calls later old new = (new ≡ old) × (after ≡ before) × (later ≡ calls)

-- The text is the listings of exactly those of the first tapes that are there, in order, each of
-- the bytes that were read of it; nothing else was asked of the folder. These tapes are listed, the
-- latest first.
unfoldable pub AreListed : List Presence → ℕ → List NumberedTape → List Call → List Call → List ℕ → Type 0
AreListed tapes zero listed calls later text = (listed ≡ []) × (text ≡ []) × (later ≡ calls)
AreListed tapes (suc number) listed calls later text =
    (before : List NumberedTape) × (front : List ℕ) × (middle : List Call) × AreListed tapes number before calls middle front
    × IsNextTape number (is_there (slice_index_or tapes number Absent)) before listed middle later front text

-- The text is the listing of a folder with this in it: it was read whose the folder is; its tapes'
-- listings; and the one last line of what a start on it would do, by just these tapes.
pub record IsFolderListing (survey : Survey) (calls later : List Call) (text : List ℕ) : Type 0 where
  pub owner : Option NodeFile
  pub middle : List Call
  pub is_owner : IsOwnerRead owner calls middle
  pub listed : List NumberedTape
  pub front : List ℕ
  pub are_listed : AreListed survey.tapes (length survey.tapes) listed middle later front
  pub state : FolderState
  pub is_state : IsStateOf survey owner (own_tapes owner listed) state
  pub last : List ℕ
  pub ends : IsLastLine state last
  pub is : text ≡ front ++ last

-- P holds of the listing of the folder with this in it
abbrev pub HasFolderListing : Survey → List Call → List Call → (List ℕ → Type 0) → Type 0
HasFolderListing survey calls later P = (text : List ℕ) × IsFolderListing survey calls later text × P text

-- What is written of a folder with this in it, by these calls of it: its listing, or a prefix of it
-- if the writer failed; nothing if a tape can't be read or an allocation failed.
abbrev pub IsFolderListed : Survey → List Call → List Call → Option (List ℕ) → Option (List ℕ) → Result (Unit {0}) RunFault → Type 0
IsFolderListed survey calls later old new result = IsTapeWriting (HasFolderListing survey calls later) (λ fault. Unit {0}) old new result

-- A folder is at the path: no file's content is known there. What is in it was seen by the first of
-- these calls, and what is written of it is by the others; none has changed a file.
pub record IsFolderDone (contents : Contents) (path : List ℕ) (old new : Option (List ℕ)) (result : Result (Unit {0}) RunFault) : Type 0 where
  pub no_file : contents.file path ≡ None
  pub survey : Survey
  pub calls : List Call
  pub surveyed : IsSurveyed survey [] calls
  pub later : List Call
  pub reads : OnlyReads [] later
  pub listed : IsFolderListed survey calls later old new result

-- What is written for `tape`: with a sequence the text of a map on the tape in the file; without
-- one the tape's listing, or the folder's, if the path may be one's.
abbrev pub IsTapeDone : Contents → List ℕ → Option ℕ → Option (List ℕ) → Option (List ℕ) → Result (Unit {0}) RunFault → Type 0
IsTapeDone contents path (Some sequence) old new result = IsMapWritten (contents.file path) sequence old new result
IsTapeDone contents path None old new result = IsListed (contents.file path) old new result ⊎ IsFolderDone contents path old new result

-- no text is the listing of a file and of a folder
abbrev pub ListingsAreDistinct : Type 0
ListingsAreDistinct = (bytes text : List ℕ) (survey : Survey) (calls later : List Call) → IsListing bytes text → ¬ IsFolderListing survey calls later text

-- ---- for the crate's own contracts

-- why a file isn't read, by the system's error
abbrev pub unread_fault : ErrorKind → TapeReadFault
unread_fault errors.OutOfMemory = unreads.Memory
unread_fault error = unreads.Failed

-- The first tapes are listed, and the check has taken those of them that have to be sound.
pub record AreTakenUpTo (tapes : List Presence) (number : ℕ) (owner : Option NodeFile) (check : TapeCheck) (calls later : List Call) (text : List ℕ) : Type 0 where
  pub listed : List NumberedTape
  pub are_listed : AreListed tapes number listed calls later text
  pub taken : HasTakenTapes (own_tapes owner listed) check

-- the check has taken one more tape of the folder, if it has to be sound
abbrev pub HasTakenNext : Option NodeFile → ℕ → List ℕ → TapeCheck → TapeCheck → Type 0
HasTakenNext owner number bytes check after =
    (tapes : List NumberedTape) → HasTakenTapes (own_tapes owner tapes) check → HasTakenTapes (own_tapes owner ((number, bytes) ∷ tapes)) after

-- A tape is listed and taken; before that what is listed is the listing of its bytes.
pub record IsListedAndTaken (number : ℕ) (owner : Option NodeFile) (check after : TapeCheck) (calls later : List Call) (old new : List ℕ) : Type 0 where
  pub bytes : List ℕ
  pub listed : IsTapeListed number bytes calls later old new
  pub taken : HasTakenNext owner number bytes check after

pub record IsNamedAndTaken (bytes : List ℕ) (number : ℕ) (owner : Option NodeFile) (check after : TapeCheck) (old new : List ℕ) : Type 0 where
  pub named : IsNamedListing bytes number old new
  pub taken : HasTakenNext owner number bytes check after

-- that of a tape that is there; of one that isn't nothing is
abbrev pub IsNextTaken : ℕ → Bool → Option NodeFile → TapeCheck → TapeCheck → List Call → List Call → List ℕ → List ℕ → Type 0
IsNextTaken number true owner check after calls later old new = IsListedAndTaken number owner check after calls later old new
IsNextTaken number false owner check after calls later old new = (new ≡ old) × (after ≡ check) × (later ≡ calls)

-- the listing of bytes was appended
pub record HasListingAppended (bytes old new : List ℕ) : Type 0 where
  pub listing : List ℕ
  pub listed : IsListing bytes listing
  pub is : new ≡ old ++ listing

-- a last line was appended
pub record HasLastLine (state : FolderState) (old new : List ℕ) : Type 0 where
  pub last : List ℕ
  pub ends : IsLastLine state last
  pub is : new ≡ old ++ last

-- a rejection was appended
pub record HasRejection (old new : List ℕ) : Type 0 where
  pub why : List ℕ
  pub is : new ≡ old ++ rejection_line why
