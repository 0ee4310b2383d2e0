-- On what a node starts: what its folder has, and the calls by which that is read and written.
use Rattle.std.specs.Prelude.{◌≡◌, ◌<◌, ◌⊎◌, ℕ, List, [], ◌∷◌, Option, Some, length, option_map}
use Rattle.wf_voter.specs.Process.{IsOpened, IsJustOpened, Process}
use Rattle.wf_address.specs.Address.{IsFirstBad, IsNoAddress, words_of}
use Rattle.wf_address.specs.declared.address_option.AddressOption.{AddressOption}
use Rattle.wf_address.specs.declared.address_option.AddressOption.TheVariants as options
use Rattle.wf_folder.specs.NodeAdmission.{IsNodeRejection, IsNodeStart, IsSoundFind}
use Rattle.wf_folder.specs.NodeFile.{IsNodeFile, node_text}
use Rattle.wf_folder.specs.Reach.{IsReachNoLess}
use Rattle.wf_folder.specs.declared.node_admission.NodeFound.{NodeFound}
use Rattle.wf_folder.specs.declared.node_admission.NodeFound.TheVariants as finds
use Rattle.wf_folder.specs.declared.node_admission.NodeRejection.{NodeRejection}
use Rattle.wf_folder.specs.declared.node_file.NodeFile.{NodeFile}
use Rattle.wf_folder.specs.declared.presence.Presence.{Presence}
use Rattle.wf_line.specs.declared.node_line.NodeLine.{NodeLine}
use Rattle.wf_node.specs.Node.{stored_of}
use Rattle.wf_node_folder.specs.Damage.{IsDamagedAt}
use Rattle.wf_node_folder.specs.Fault.{IsFromSystem}
use Rattle.wf_node_folder.specs.Folder.{IsFoundIn, IsHeardBad, IsHeardIn}
use Rattle.wf_node_folder.specs.Held.{HasGoneBack, HasHeld, HoldsAll}
use Rattle.wf_node_folder.specs.ReplacementFiles.{IsBadFile}
use Rattle.wf_node_folder.specs.declared.fault.CommandFault.{CommandFault}
use Rattle.wf_node_folder.specs.declared.fault.CommandFault.TheVariants as faults
use Rattle.wf_node_folder.specs.declared.replacement_fault.ReplacementFault.{ReplacementFault}
use Rattle.wf_peer.specs.Told.{AreLeft}
use Rattle.wf_peer.specs.declared.heard.Heard.{Heard as HeardOfNode}
use Rattle.wf_rejoin.specs.declared.replacement.Replacement.{Replacement}
use Rattle.wf_store.specs.Call.{Call, OnlyReads, drawn, failed_at, locked, opened, read, replaced, seen, unreplaced}
use Rattle.wf_store.specs.declared.file_name.FileName.TheVariants.{Farm, Heard, Joins, NodeTape, Replaced}
use Rattle.wf_tape.specs.declared.tape.Tape.{Ghosts as Tape}

-- ---- the file `farm`, and whether the tape is there

-- the node whose file was found; 0 if none was
abbrev pub node_in : NodeFound → ℕ
node_in finds.Nothing = 0
node_in (finds.File file) = file.node
node_in (finds.Bad fault) = 0

-- The file `farm` was read, and says this; then it was looked for the tape of its node.
pub record IsLookedAt (found : NodeFound) (tape : Presence) (old new : List Call) : Type 0 where
  pub bytes : Option (List ℕ)
  pub is : IsFoundIn bytes found
  pub sound : IsSoundFind found
  pub calls : new ≡ seen (NodeTape (node_in found)) tape ∷ read Farm bytes ∷ old

-- What was found admits this start, of one of as many nodes as addresses are listed.
pub record IsFileAdmitted (line : NodeLine) (file : NodeFile) (old new : List Call) : Type 0 where
  pub found : NodeFound
  pub tape : Presence
  pub looked : IsLookedAt found tape old new
  pub start : IsNodeStart (length (words_of line.peers.now)) found tape file

-- What was found is why the node may not start.
pub record IsRejectedBy (line : NodeLine) (why : NodeRejection) (old new : List Call) : Type 0 where
  pub found : NodeFound
  pub tape : Presence
  pub looked : IsLookedAt found tape old new
  pub rejection : IsNodeRejection (length (words_of line.peers.now)) found tape why

-- ---- the files about replacements

-- What was found admits this start, and then the files `replaced` and `joins` were read.
pub record IsStartAdmitted (line : NodeLine) (file : NodeFile) (old new : List Call) : Type 0 where
  pub looked_at : List Call
  pub is_file : IsFileAdmitted line file old looked_at
  pub replaced_bytes : Option (List ℕ)
  pub joins_bytes : Option (List ℕ)
  pub calls : new ≡ read Joins joins_bytes ∷ read Replaced replaced_bytes ∷ looked_at

-- It admits this start, and one of them is bad.
pub record HasBadFile (line : NodeLine) (why : ReplacementFault) (old new : List Call) : Type 0 where
  pub file : NodeFile
  pub looked_at : List Call
  pub is_file : IsFileAdmitted line file old looked_at
  pub bad : IsBadFile file why new

-- why a start isn't admitted: by what was found, or by one of these files
abbrev pub IsFileCause : NodeLine → List Call → List Call → CommandFault → Type 0
IsFileCause line old new (faults.Rejected why) = IsRejectedBy line why old new
IsFileCause line old new fault = IsFromSystem fault

abbrev pub IsWhyNotAdmitted : NodeLine → List Call → List Call → CommandFault → Type 0
IsWhyNotAdmitted line old new (faults.Rejected why) = IsRejectedBy line why old new
IsWhyNotAdmitted line old new (faults.Replacement why) = HasBadFile line why old new
IsWhyNotAdmitted line old new fault = IsFromSystem fault

-- ---- the tape

-- The node's tape was read, and holds all that the file says is known of it.
pub record IsCompared (file : NodeFile) (old new : List Call) : Type 0 where
  pub content : List ℕ
  pub holds : HasHeld file content
  pub calls : new ≡ read (NodeTape file.node) (Some content) ∷ old

-- It was read, and holds less.
pub record IsReturned (file : NodeFile) (why : NodeRejection) (old new : List Call) : Type 0 where
  pub content : List ℕ
  pub back : HasGoneBack file content why
  pub calls : new ≡ read (NodeTape file.node) (Some content) ∷ old

-- It was read, and is damaged at this byte offset.
pub record IsReadDamaged (file : NodeFile) (offset : ℕ) (old new : List Call) : Type 0 where
  pub content : List ℕ
  pub damaged : IsDamagedAt content offset
  pub calls : new ≡ read (NodeTape file.node) (Some content) ∷ old

abbrev pub IsWhyNotCompared : NodeFile → List Call → List Call → CommandFault → Type 0
IsWhyNotCompared file old new (faults.Rejected why) = IsReturned file why old new
IsWhyNotCompared file old new (faults.TapeBad offset) = IsReadDamaged file offset old new
IsWhyNotCompared file old new fault = IsFromSystem fault

-- It was compared, and then opened.
pub record IsTapeOpened (file : NodeFile) (old new : List Call) : Type 0 where
  pub compared : List Call
  pub is_compared : IsCompared file old compared
  pub calls : new ≡ opened (NodeTape file.node) ∷ compared

-- the tape, if it was touched, was compared before: it was opened, or may have been made
abbrev pub IsTapeTouched : NodeFile → List Call → List Call → Type 0
IsTapeTouched file old new = (compared : List Call) × IsCompared file old compared × ((new ≡ opened (NodeTape file.node) ∷ compared) ⊎ (new ≡ failed_at (NodeTape file.node) ∷ compared))

-- what was left of it where no node opened: nothing was changed, or it was touched
abbrev pub IsUnopened : NodeFile → List Call → List Call → Type 0
IsUnopened file old new = OnlyReads old new ⊎ IsTapeTouched file old new

module _ {T : Type 0} (tapes : Tape T) where
  -- The process is the node of this file, of as many nodes as the file says, and is in its first
  -- run: its node was opened, and moved to its tape, which has its records since. It holds all that
  -- the file says is known of it.
  pub record IsProcessStarted (file : NodeFile) (process : Process T tapes) : Type 0 where
    pub opened : IsOpened tapes process.actor.node.tape file.node file.nodes process.actor.node
    pub begun : IsJustOpened process
    pub first : process.ended.items ≡ []
    pub among : process.n ≡ file.nodes
    pub holds : HoldsAll file.known (stored_of process.actor.node)

-- ---- what is drawn and written

-- the bits that mark this life were drawn
abbrev pub IsLifeDrawn : List Call → List Call → Type 0
IsLifeDrawn old new = (life : List ℕ) × (new ≡ drawn life ∷ old)

-- What was heard of the peers was read, and then the file `farm` was written: the start is counted.
pub record IsStartCounted (heard : List (Option HeardOfNode)) (written : NodeFile) (old new : List Call) : Type 0 where
  pub bytes : Option (List ℕ)
  pub is_heard : IsHeardIn bytes heard
  pub calls : new ≡ replaced Farm (node_text written) ∷ read Heard bytes ∷ old

-- The start was counted, and of what was heard that of folders that others have replaced is left
-- out.
pub record IsReadyCounted (replacements : List (Option Replacement)) (heard : List (Option HeardOfNode)) (written : NodeFile) (old new : List Call) : Type 0 where
  pub known : List (Option HeardOfNode)
  pub is_counted : IsStartCounted known written old new
  pub left : AreLeft known replacements heard

-- A file `farm` that says no less than this one was tried to be written then: it is there, or the
-- one from before.
pub record IsUncounted (file : NodeFile) (old new : List Call) : Type 0 where
  pub bytes : Option (List ℕ)
  pub tried : NodeFile
  pub sound : IsNodeFile tried
  pub no_less : IsReachNoLess file.known.reach tried.known.reach
  pub calls : new ≡ unreplaced Farm (node_text tried) ∷ read Heard bytes ∷ old

-- what was left where the start wasn't counted
abbrev pub IsNotCounted : NodeFile → List Call → List Call → Type 0
IsNotCounted file old new = OnlyReads old new ⊎ IsUncounted file old new

-- ---- the start

-- The calls of a start that was admitted: the tape was read, compared and opened; the bits that
-- mark this life were drawn; what was heard was read; and the file `farm` was written.
pub record IsCountedOn (file written : NodeFile) (heard : List (Option HeardOfNode)) (old new : List Call) : Type 0 where
  pub on_tape : List Call
  pub is_on_tape : IsTapeOpened file old on_tape
  pub life : List ℕ
  pub is_counted : IsStartCounted heard written (drawn life ∷ on_tape) new

-- The calls of a start on a folder that is locked, from the first one to the last one.
pub record IsStartOn (line : NodeLine) (file written : NodeFile) (heard : List (Option HeardOfNode)) (old new : List Call) : Type 0 where
  pub admitted : List Call
  pub is_admitted : IsStartAdmitted line file old admitted
  pub is_counted : IsCountedOn file written heard admitted new

-- The tape was opened, and then the start wasn't counted.
pub record IsLeftOpened (file : NodeFile) (old new : List Call) : Type 0 where
  pub on_tape : List Call
  pub is_on_tape : IsTapeOpened file old on_tape
  pub later : OnlyReads on_tape new ⊎ ((life : List ℕ) × IsUncounted file (drawn life ∷ on_tape) new)

-- what is left of a start that was admitted, and that wasn't counted
abbrev pub IsLeftUncounted : NodeFile → List Call → List Call → Type 0
IsLeftUncounted file old new = IsUnopened file old new ⊎ IsLeftOpened file old new

-- The calls of such a start.
pub record IsStartCutShort (line : NodeLine) (old new : List Call) : Type 0 where
  pub file : NodeFile
  pub admitted : List Call
  pub is_admitted : IsStartAdmitted line file old admitted
  pub left : IsLeftUncounted file admitted new

-- The calls of one that was counted, where the node wasn't served: the file that was written says
-- no less than the one that was found.
pub record IsUnserved (line : NodeLine) (old new : List Call) : Type 0 where
  pub file : NodeFile
  pub written : NodeFile
  pub sound : IsNodeFile written
  pub no_less : IsReachNoLess file.known.reach written.known.reach
  pub heard : List (Option HeardOfNode)
  pub is_start : IsStartOn line file written heard old new

-- what is left in the folder where the node wasn't served: no file was changed; or it was locked,
-- and the start was stopped
abbrev pub IsNotServed : NodeLine → List Call → List Call → Type 0
IsNotServed line old new = OnlyReads old new ⊎ (IsStartCutShort line (locked ∷ old) new ⊎ IsUnserved line (locked ∷ old) new)

-- ---- its errors

-- The folder, which is locked, admitted the start, and its tape has gone back.
pub record HasReturned (line : NodeLine) (why : NodeRejection) (old new : List Call) : Type 0 where
  pub file : NodeFile
  pub admitted : List Call
  pub is_admitted : IsStartAdmitted line file old admitted
  pub returned : IsReturned file why admitted new

-- It admitted the start, and its tape is damaged at this byte offset.
pub record HasDamagedTape (line : NodeLine) (offset : ℕ) (old new : List Call) : Type 0 where
  pub file : NodeFile
  pub admitted : List Call
  pub is_admitted : IsStartAdmitted line file old admitted
  pub damaged : IsReadDamaged file offset admitted new

-- why a start is rejected: by what was found in the folder, or by the tape
abbrev pub IsStartRejected : NodeLine → NodeRejection → List Call → List Call → Type 0
IsStartRejected line why old new = IsRejectedBy line why old new ⊎ HasReturned line why old new

-- the value of an option, if it is given
abbrev pub value_of : NodeLine → AddressOption → Option (List ℕ)
value_of line options.Http = Some line.http.now
value_of line options.Listen = option_map (λ word. word.now) line.listen
value_of line options.Admin = option_map (λ word. word.now) line.admin
value_of line options.Readers = option_map (λ word. word.now) line.readers

-- it is given, and no address
pub record IsBadOption (line : NodeLine) (option : AddressOption) : Type 0 where
  pub word : List ℕ
  pub is : value_of line option ≡ Some word
  pub bad : IsNoAddress word

-- why its words aren't taken: the list or an option, or an allocation failed
abbrev pub IsWordsFault : NodeLine → CommandFault → Type 0
IsWordsFault line (faults.BadPeer index) = IsFirstBad (words_of line.peers.now) index
IsWordsFault line (faults.PeerCount count) = (count ≡ length (words_of line.peers.now)) × (64 < count)
IsWordsFault line (faults.BadAddress option) = IsBadOption line option
IsWordsFault line fault = IsFromSystem fault

-- why a start that was admitted isn't counted
abbrev pub IsStopFault : NodeFile → List Call → List Call → CommandFault → Type 0
IsStopFault file old new (faults.Rejected why) = IsReturned file why old new
IsStopFault file old new (faults.PeerProgress why) = IsHeardBad new
IsStopFault file old new (faults.TapeBad offset) = IsReadDamaged file offset old new
IsStopFault file old new fault = IsFromSystem fault

-- why a start on a folder that is locked isn't counted
abbrev pub IsHeldCause : NodeLine → List Call → List Call → CommandFault → Type 0
IsHeldCause line old new (faults.Rejected why) = IsStartRejected line why old new
IsHeldCause line old new (faults.PeerProgress why) = IsHeardBad new
IsHeldCause line old new (faults.Replacement why) = HasBadFile line why old new
IsHeldCause line old new (faults.TapeBad offset) = HasDamagedTape line offset old new
IsHeldCause line old new fault = IsFromSystem fault

-- Why a node didn't begin: the list or an option of the command line, what was found in the folder,
-- or the system.
abbrev pub IsNodeCause : NodeLine → List Call → List Call → CommandFault → Type 0
IsNodeCause line old new (faults.BadPeer index) = IsFirstBad (words_of line.peers.now) index
IsNodeCause line old new (faults.PeerCount count) = (count ≡ length (words_of line.peers.now)) × (64 < count)
IsNodeCause line old new (faults.BadAddress option) = IsBadOption line option
IsNodeCause line old new (faults.Rejected why) = IsStartRejected line why (locked ∷ old) new
IsNodeCause line old new (faults.PeerProgress why) = IsHeardBad new
IsNodeCause line old new (faults.Replacement why) = HasBadFile line why (locked ∷ old) new
IsNodeCause line old new (faults.TapeBad offset) = HasDamagedTape line offset (locked ∷ old) new
IsNodeCause line old new fault = IsFromSystem fault

-- Why, and what is left in its folder.
pub record IsNodeFault (line : NodeLine) (old new : List Call) (fault : CommandFault) : Type 0 where
  pub cause : IsNodeCause line old new fault
  pub left : IsNotServed line old new
