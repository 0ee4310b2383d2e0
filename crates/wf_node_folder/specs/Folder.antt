-- The files of a node's folder: what they say, and which of them a process leaves alone.
use Rattle.std.specs.Prelude.{◌≡◌, ℕ, ⊤, Bool, true, false, List, [], ◌∷◌, ◌++◌, Option, Some, None, length, replicate, if◌then◌else◌}
use Rattle.wf_def.specs.Definition.{Definition}
use Rattle.wf_folder.specs.NodeFile.{IsNodeFile, IsTextOf}
use Rattle.wf_folder.specs.declared.node_admission.NodeFound.{NodeFound}
use Rattle.wf_folder.specs.declared.node_admission.NodeFound.TheVariants as finds
use Rattle.wf_folder.specs.declared.node_file.NodeFile.{NodeFile}
use Rattle.wf_model.specs.DurableState.{DurableState}
use Rattle.wf_node.specs.Images.{StandsFor}
use Rattle.wf_node_folder.specs.Joined.{AreJoinedSoundly}
use Rattle.wf_peer.specs.PeerProgressText as peers
use Rattle.wf_peer.specs.declared.heard.Heard.{Heard as HeardOfNode}
use Rattle.wf_store.specs.Call.{Call, IsAfter, changes, read}
use Rattle.wf_store.specs.Texts.{is_heard, is_tape, text_in}
use Rattle.wf_store.specs.declared.call_kind.CallKind.{CallKind}
use Rattle.wf_store.specs.declared.call_kind.CallKind.TheVariants as kinds
use Rattle.wf_store.specs.declared.file_name.FileName.{FileName}
use Rattle.wf_store.specs.declared.file_name.FileName.TheVariants.{Farm, Heard, NodeTape}

-- ---- the files `farm` that may be in a folder that a process holds

abbrev pub IsFileOrNone : Option NodeFile → Type 0
IsFileOrNone None = Unit {0}
IsFileOrNone (Some file) = IsNodeFile file

-- the one that was written last, and a later one whose writing failed
pub record AreFiles (file : NodeFile) (attempted : Option NodeFile) : Type 0 where
  pub last : IsNodeFile file
  pub later : IsFileOrNone attempted

-- ---- what was read

-- what the bytes of a file `farm` say; None: there is none
abbrev pub IsFoundIn : Option (List ℕ) → NodeFound → Type 0
IsFoundIn None finds.Nothing = ⊤
IsFoundIn None found = ⊥
IsFoundIn (Some bytes) finds.Nothing = ⊥
IsFoundIn (Some bytes) (finds.File file) = IsTextOf bytes file
IsFoundIn (Some bytes) (finds.Bad fault) = (file : NodeFile) → IsNodeFile file → ¬ IsTextOf bytes file

-- The file `farm` was read, and says this.
pub record IsFarmFound (found : NodeFound) (old new : List Call) : Type 0 where
  pub bytes : Option (List ℕ)
  pub calls : new ≡ read Farm bytes ∷ old
  pub is : IsFoundIn bytes found

-- what the bytes of a file `heard` say of the peers: of none anything if there is no such file
abbrev pub IsHeardIn : Option (List ℕ) → List (Option HeardOfNode) → Type 0
IsHeardIn None known = known ≡ replicate 64 None
IsHeardIn (Some bytes) known = (length known ≡ 64) × peers.ArePeerProgress known × peers.IsProgressTextOf bytes known

-- The file `heard` was read, and says this.
pub record IsHeardFound (known : List (Option HeardOfNode)) (old new : List Call) : Type 0 where
  pub bytes : Option (List ℕ)
  pub calls : new ≡ read Heard bytes ∷ old
  pub is : IsHeardIn bytes known

-- The file `heard` was read last, and says nothing that it could.
pub record IsHeardBad (new : List Call) : Type 0 where
  pub bytes : List ℕ
  pub earlier : List Call
  pub calls : new ≡ read Heard (Some bytes) ∷ earlier
  pub none : (known : List (Option HeardOfNode)) → length known ≡ 64 → peers.ArePeerProgress known → ¬ peers.IsProgressTextOf bytes known

-- ---- what the tape had

-- what was read of a node's tape last
abbrev pub tape_of_file : FileName → (bytes earlier : Option (List ℕ)) → Option (List ℕ)
tape_of_file (NodeTape node) bytes earlier = bytes
tape_of_file file bytes earlier = earlier

abbrev pub tape_by : CallKind → (bytes earlier : Option (List ℕ)) → Option (List ℕ)
tape_by (kinds.Reads file) bytes earlier = tape_of_file file bytes earlier
tape_by kind bytes earlier = earlier

abbrev pub tape_in : List Call → Option (List ℕ)
tape_in [] = None
tape_in (call ∷ earlier) = tape_by call.kind call.bytes (tape_in earlier)

-- bytes were read, and stand for this
abbrev pub StandsForRead : DurableState Definition → Option (List ℕ) → Type 0
StandsForRead stored None = ⊥
StandsForRead stored (Some bytes) = StandsFor stored bytes

-- what was read of the file `heard` last, or what it got by a call that succeeded
abbrev pub heard_in : List Call → Option (List ℕ)
heard_in calls = text_in is_heard calls

-- ---- what is left alone

abbrev pub is_of_tape : CallKind → Bool
is_of_tape (kinds.Opens file) = is_tape file
is_of_tape (kinds.Replaces file) = is_tape file
is_of_tape (kinds.FailsAt file) = is_tape file
is_of_tape kind = false

-- the changes that are of a tape
abbrev pub of_tapes : List Call → List Call
of_tapes [] = []
of_tapes (call ∷ earlier) = if is_of_tape call.kind then call ∷ of_tapes earlier else of_tapes earlier

-- the calls by which a tape was made, or put in the place of another, or may have been
abbrev pub tape_changes : List Call → List Call
tape_changes calls = of_tapes (changes calls)

-- the calls of a folder, as it stands first in a list
abbrev pub calls_in : {S : Type 0} → (S → List Call) → List (S × ℕ) → List Call
calls_in calls [] = []
calls_in calls (first ∷ rest) = calls first.0

-- ---- which folder is written to

-- whether the folder at its path was the one that is locked when that was looked at last
abbrev pub own_by : CallKind → Bool → Bool
own_by (kinds.Compares same) earlier = same
own_by kind earlier = earlier

abbrev pub is_own : List Call → Bool
is_own [] = false
is_own (call ∷ earlier) = own_by call.kind (is_own earlier)

-- the call opens a file, or puts one in the place of another, or tried to
abbrev pub needs_own : CallKind → Bool
needs_own (kinds.Opens file) = true
needs_own (kinds.OpensExisting file) = true
needs_own (kinds.Replaces file) = true
needs_own (kinds.FailsAt file) = true
needs_own kind = false

-- each of the later calls that does so came once the folder had been seen to be the one that is
-- locked
abbrev pub AreInLockedFolder : List Call → List Call → Type 0
AreInLockedFolder [] begun = ⊤
AreInLockedFolder (call ∷ later) begun = (needs_own call.kind ≡ true → is_own (later ++ begun) ≡ true) × AreInLockedFolder later begun

-- Calls came after these. None of them made a tape, or put one in the place of another, and only
-- the folder that is locked was written to. What was put in the place of a file may be: so the
-- folder ceases to join only where it may vote, and what `farm` says that is published never falls.
-- The tape is opened again only beside a file `farm` that the process put there, or tried to.
pub record StaysFrom (begun calls : List Call) : Type 0 where
  pub after : IsAfter begun calls
  pub tapes : tape_changes calls ≡ tape_changes begun
  pub guarded : AreInLockedFolder after.later begun
  pub joined : AreJoinedSoundly after.later begun
