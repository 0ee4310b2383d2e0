-- What a power cut leaves of a node's folder, by the folder's calls.
use Rattle.std.specs.Prelude.{◌≡◌, ◌≤◌, ◌⊎◌, ℕ, ⊤, true, false, List, [], ◌∷◌, Option, Some, None}
use Rattle.wf_folder.specs.NodeFile.{IsNodeFile, IsTextOf, node_text}
use Rattle.wf_folder.specs.declared.node_file.NodeFile.{NodeFile}
use Rattle.wf_line.specs.declared.node_line.InitLine.{InitLine}
use Rattle.wf_line.specs.declared.node_line.NodeLine.{NodeLine}
use Rattle.wf_node_folder.specs.Cleared.{IsCleared, IsHalfCleared}
use Rattle.wf_node_folder.specs.FarmPut.{IsRaise, published_in}
use Rattle.wf_node_folder.specs.Folder.{IsHeardIn, StaysFrom}
use Rattle.wf_node_folder.specs.Made.{HasMade, IsFirstFile, IsFirstTape, IsHalfMade, first_joining}
use Rattle.wf_node_folder.specs.Held.{HasHeld}
use Rattle.wf_node_folder.specs.Ready.{IsReadyAs}
use Rattle.wf_node_folder.specs.ReplacementFiles.{IsJoinsIn, IsReplacedIn}
use Rattle.wf_node_folder.specs.Sound.{IsSoundText}
use Rattle.wf_node_folder.specs.Start.{IsNotServed, IsStartOn}
use Rattle.wf_store.specs.Texts.{is_tape}
use Rattle.wf_node_folder.specs.declared.ready.ReadyNode.{ReadyNode}
use Rattle.wf_peer.specs.declared.heard.Heard.{Heard as HeardOfNode}
use Rattle.wf_power_cuts.specs.Cut.{CouldLeave, MayLeaveNow}
use Rattle.wf_rejoin.specs.JoiningText.{joins_text}
use Rattle.wf_rejoin.specs.declared.joining.Joining.{Joining}
use Rattle.wf_rejoin.specs.declared.replacement.Replacement.{Replacement}
use Rattle.wf_store.specs.Call.{Call, IsAfter, locked, read, replaced}
use Rattle.wf_store.specs.declared.call_kind.CallKind.{CallKind}
use Rattle.wf_store.specs.declared.call_kind.CallKind.TheVariants as kinds
use Rattle.wf_store.specs.declared.file_name.FileName.{FileName}
use Rattle.wf_store.specs.declared.file_name.FileName.TheVariants.{Farm, Heard, Joins, NodeTape, Replaced}
use Rattle.wf_tape.specs.declared.tape.Tape.{Ghosts as Tape}

-- ---- a folder that is made

-- The file `farm` is there, whole, and beside it, whole, the tape that the folder begins with and
-- the file `joins` of one that joins.
pub record IsMadeWhole (line : InitLine) (images : FileName → List ℕ) : Type 0 where
  pub file : NodeFile
  pub is_first : IsFirstFile line file
  pub farm : images Farm ≡ node_text file
  pub tape : IsFirstTape line (images (NodeTape line.id))
  pub joins : line.replaces ≡ true → images Joins ≡ joins_text (first_joining line file.mark)

-- Wherever the power is cut while `init` makes a folder, or begins to, there is no file `farm`, so
-- the folder is none of a node; or all is there.
abbrev pub InitsAreWhole : Type 0
InitsAreWhole = (line : InitLine) (calls : List Call) → HasMade line [] calls ⊎ IsHalfMade line [] calls → (images : FileName → List ℕ) → CouldLeave calls images
    → (images Farm ≡ []) ⊎ IsMadeWhole line images

-- ---- a folder that is written to

-- what a call put in the place of a file, or tried to, is a sound text; a tape that wasn't opened
-- may have been made
abbrev pub IsSoundGiven : FileName → Option (List ℕ) → Type 0
IsSoundGiven file None = is_tape file ≡ true
IsSoundGiven file (Some text) = IsSoundText file text

-- so of a call; what was opened is a tape
abbrev pub IsSoundCall : CallKind → Option (List ℕ) → Type 0
IsSoundCall (kinds.Replaces file) bytes = IsSoundGiven file bytes
IsSoundCall (kinds.FailsAt file) bytes = IsSoundGiven file bytes
IsSoundCall (kinds.Opens file) bytes = is_tape file ≡ true
IsSoundCall (kinds.OpensExisting file) bytes = is_tape file ≡ true
IsSoundCall kind bytes = ⊤

abbrev pub AreSoundCalls : List Call → Type 0
AreSoundCalls [] = ⊤
AreSoundCalls (call ∷ earlier) = IsSoundCall call.kind call.bytes × AreSoundCalls earlier

-- Wherever the power is cut between or inside such calls, a file that is no tape isn't there, or is
-- there with a sound text, whole.
abbrev pub FilesAreWhole : Type 0
FilesAreWhole = (calls : List Call) → AreSoundCalls calls → (images : FileName → List ℕ) → CouldLeave calls images → (file : FileName) → is_tape file ≡ false
    → (images file ≡ []) ⊎ IsSoundText file (images file)

-- ---- which calls are such

-- Those of `init`, and, after such, those of `clear`, those of a start from the lock on, which may
-- end with an error or come to serve, and those of a node that is served.
abbrev pub InitsAreSound : Type 0
InitsAreSound = (line : InitLine) (calls : List Call) → HasMade line [] calls ⊎ IsHalfMade line [] calls → AreSoundCalls calls

abbrev pub ClearsAreSound : Type 0
ClearsAreSound = (old calls : List Call) → AreSoundCalls old → IsCleared (locked ∷ old) calls ⊎ IsHalfCleared (locked ∷ old) calls → AreSoundCalls calls

abbrev pub StartsAreSound : Type 0
StartsAreSound = (line : NodeLine) (file written : NodeFile) (heard : List (Option HeardOfNode)) (old calls : List Call) → AreSoundCalls old → IsNodeFile written
    → IsStartOn line file written heard (locked ∷ old) calls → AreSoundCalls calls

abbrev pub StopsAreSound : Type 0
StopsAreSound = (line : NodeLine) (old calls : List Call) → AreSoundCalls old → IsNotServed line old calls → AreSoundCalls calls

abbrev pub NodesAreSound : Type 0
NodesAreSound = (begun calls : List Call) → StaysFrom begun calls → AreSoundCalls begun → AreSoundCalls calls

-- ---- what the next start reads of them

-- Each file isn't there, or the next start reads it back, and rejects none as bad.
pub record AreReadBack (images : FileName → List ℕ) : Type 0 where
  pub farm : (images Farm ≡ []) ⊎ ((file : NodeFile) × IsNodeFile file × IsTextOf (images Farm) file)
  pub heard : (images Heard ≡ []) ⊎ ((known : List (Option HeardOfNode)) × IsHeardIn (Some (images Heard)) known)
  pub replaced : (images Replaced ≡ []) ⊎ ((known : List (Option Replacement)) × IsReplacedIn (Some (images Replaced)) known)
  pub joins : (joining : Option Joining) × IsJoinsIn (Some (images Joins)) joining

-- so wherever the power is cut
abbrev pub CutsAreReadBack : Type 0
CutsAreReadBack = (calls : List Call) → AreSoundCalls calls → (images : FileName → List ℕ) → CouldLeave calls images → AreReadBack images

-- What a power cut leaves of the file `farm` after the calls of a node that is served, whose start
-- put this one there: the text of a file that says no less than the one that was put there last.
abbrev pub CutsKeepFarm : Type 0
CutsKeepFarm = (written : NodeFile) (older calls : List Call) → IsNodeFile written → StaysFrom (replaced Farm (node_text written) ∷ older) calls → (image : List ℕ) → MayLeaveNow calls Farm image
    → IsRaise image calls

-- an image is the text of a file that says no less than that so much is published
pub record SaysNoLess (published : ℕ) (image : List ℕ) : Type 0 where
  pub file : NodeFile
  pub sound : IsNodeFile file
  pub is : image ≡ node_text file
  pub no_less : published ≤ published_in file

abbrev pub CutsSayNoLess : ℕ → List Call → Type 0
CutsSayNoLess published calls = (image : List ℕ) → MayLeaveNow calls Farm image → SaysNoLess published image

-- what later calls read of the file `farm` may have been left there by then
abbrev pub ReadsWhatIsLeft : (old new : List Call) → Type 0
ReadsWhatIsLeft old new = (earlier : List Call) (bytes : List ℕ) → IsAfter old earlier → IsAfter (read Farm (Some bytes) ∷ earlier) new → MayLeaveNow earlier Farm bytes

-- So it is after each call of a start that reads what is there, whether it is counted or ends
-- before with an error, if it was before the start.
abbrev pub StartsKeepFarm : Type 0
StartsKeepFarm = (line : NodeLine) (old calls new : List Call) → IsAfter old calls → IsAfter calls new → IsNotServed line old new → ReadsWhatIsLeft old new
    → (published : ℕ) → CutsSayNoLess published old → CutsSayNoLess published calls

-- ---- the tape of a start

-- A start that comes to serve moved its node to the tape. Whatever a power cut leaves then of a
-- tape that is durable holds all that the file `farm` says, the one from before and the one that
-- counts the start: so the next start's node isn't one that went back.
abbrev pub StartsAgain : {T : Type 0} → Tape T → Type 0
StartsAgain {T} tapes = (file : NodeFile) (ready : ReadyNode T tapes) (old new : List Call) → IsReadyAs tapes file ready old new → tapes.durable → (image : List ℕ)
    → tapes.images ready.process.actor.node.tape image → HasHeld file image × HasHeld ready.file image
