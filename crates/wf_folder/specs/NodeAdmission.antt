-- On what a node may start: the file `farm` and the tape of a folder, in a farm of n nodes, and
-- what the tape holds.
use Rattle.std.specs.Prelude.{◌≡◌, ◌≢◌, ◌<◌, ◌≤◌, ℕ, true, List, Option, Some}
use Rattle.wf_folder.specs.declared.node_admission.NodeFound.{NodeFound}
use Rattle.wf_folder.specs.declared.node_admission.NodeFound.TheVariants as finds
use Rattle.wf_folder.specs.declared.node_admission.NodeRejection.{NodeRejection}
use Rattle.wf_folder.specs.declared.node_admission.NodeRejection.TheVariants as causes
use Rattle.wf_folder.specs.declared.node_file.NodeFile.{NodeFile}
use Rattle.wf_folder.specs.declared.reach.Known.{Known}
use Rattle.wf_folder.specs.declared.reach.Reach.{Reach}
use Rattle.wf_folder.specs.declared.presence.Presence.{Presence}
use Rattle.wf_folder.specs.Admission.{is_there}
use Rattle.wf_folder.specs.Reach.{IsNoLower, IsNoLowerVote, open_vote}
use Rattle.wf_folder.specs.NodeFile.{IsNodeFile, last_start, started}

-- a file that was found is a node's
abbrev pub IsSoundFind : NodeFound → Type 0
IsSoundFind finds.Nothing = Unit {0}
IsSoundFind (finds.File file) = IsNodeFile file
IsSoundFind (finds.Bad fault) = Unit {0}

-- The node's file is there, of a farm of n nodes, and its tape, and a further start can be counted:
-- the file of this start counts it, and says what it said otherwise.
pub record IsAdmittedStart (nodes : ℕ) (file : NodeFile) (tape : Presence) (now : NodeFile) : Type 0 where
  pub same_nodes : file.nodes ≡ nodes
  pub has_tape : is_there tape ≡ true
  pub countable : file.starts < last_start
  pub counted : now ≡ started file

abbrev pub IsNodeStart : ℕ → NodeFound → Presence → NodeFile → Type 0
IsNodeStart nodes finds.Nothing tape now = ⊥
IsNodeStart nodes (finds.File file) tape now = IsAdmittedStart nodes file tape now
IsNodeStart nodes (finds.Bad fault) tape now = ⊥

-- why a node doesn't start on this file: it is of another number of nodes; if not, the tape is
-- missing; if not, it counts no further start
abbrev pub IsFileRejection : ℕ → NodeFile → Presence → NodeRejection → Type 0
IsFileRejection nodes file tape (causes.OtherNodes other) = (file.nodes ≡ other) × (other ≢ nodes)
IsFileRejection nodes file tape causes.MissingTape = (file.nodes ≡ nodes) × (¬ (is_there tape ≡ true))
IsFileRejection nodes file tape causes.NoFurtherStart = (file.nodes ≡ nodes) × (is_there tape ≡ true) × (last_start ≤ file.starts)
IsFileRejection nodes file tape _ = ⊥

-- the cause: there is no file, or a bad one, or the one that is there
abbrev pub IsNodeRejection : ℕ → NodeFound → Presence → NodeRejection → Type 0
IsNodeRejection nodes finds.Nothing tape why = why ≡ causes.NoFile
IsNodeRejection nodes (finds.Bad fault) tape why = why ≡ causes.BadFile fault
IsNodeRejection nodes (finds.File file) tape why = IsFileRejection nodes file tape why

-- no start is both
abbrev pub NodeStartsAreNotRejected : Type 0
NodeStartsAreNotRejected = (nodes : ℕ) (found : NodeFound) (tape : Presence) (now : NodeFile) (why : NodeRejection) → IsNodeStart nodes found tape now → ¬ IsNodeRejection nodes found tape why

-- ---- what the tape holds

-- The tape holds no less than is known: it goes as far, with the same history up to there, and has
-- no lower round and promise, and no lower vote than one at a sequence that it hasn't as published.
pub record IsTapeAdmitted (known : Known) (tape : Reach) (digest : Option (List ℕ)) : Type 0 where
  pub up_to : known.reach.published ≤ tape.published
  pub same_history : digest ≡ Some known.digest
  pub tried : known.reach.round ≤ tape.round
  pub promised : IsNoLower known.reach.promise tape.promise
  pub voted : IsNoLowerVote (open_vote known.reach.vote tape.published) tape.vote

-- the tape goes no less far; it has no other history either; and no lower round either
abbrev pub GoesAsFar : Known → Reach → Type 0
GoesAsFar known tape = known.reach.published ≤ tape.published

abbrev pub HasSameHistory : Known → Reach → Option (List ℕ) → Type 0
HasSameHistory known tape digest = GoesAsFar known tape × (digest ≡ Some known.digest)

abbrev pub HasTried : Known → Reach → Option (List ℕ) → Type 0
HasTried known tape digest = HasSameHistory known tape digest × (known.reach.round ≤ tape.round)

-- the cause: the tape doesn't go as far; if it does, its history differs; if not, its round is
-- lower; if not, its promise; if not, its vote
abbrev pub IsTapeRejection : Known → Reach → Option (List ℕ) → NodeRejection → Type 0
IsTapeRejection known tape digest (causes.LowerSequence had has) = (known.reach.published ≡ had) × (tape.published ≡ has) × (has < had)
IsTapeRejection known tape digest (causes.OtherHistory at) = GoesAsFar known tape × (known.reach.published ≡ at) × (digest ≢ Some known.digest)
IsTapeRejection known tape digest (causes.LowerRound had has) =
    HasSameHistory known tape digest × (known.reach.round ≡ had) × (tape.round ≡ has) × (has < had)
IsTapeRejection known tape digest (causes.LowerPromise b) =
    HasTried known tape digest × (known.reach.promise ≡ Some b) × (¬ IsNoLower known.reach.promise tape.promise)
IsTapeRejection known tape digest (causes.LowerVote v) =
    HasTried known tape digest × IsNoLower known.reach.promise tape.promise × (open_vote known.reach.vote tape.published ≡ Some v)
    × (¬ IsNoLowerVote (open_vote known.reach.vote tape.published) tape.vote)
IsTapeRejection known tape digest _ = ⊥
