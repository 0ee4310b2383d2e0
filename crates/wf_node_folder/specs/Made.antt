-- What `init` did to its folder.
use Rattle.std.specs.Prelude.{◌≡◌, ◌≤◌, ◌⊎◌, ℕ, true, List, [], ◌∷◌, Result, Ok, Err, IsSome, MatchOption, replicate, if◌then◌else◌}
use Rattle.std.specs.Path.{path_file_name}
use Rattle.wf_folder.specs.Name.{IsNameText, pad}
use Rattle.wf_folder.specs.NodeFile.{IsNodeFile, node_text}
use Rattle.wf_folder.specs.declared.node_file.NodeFile.{NodeFile}
use Rattle.wf_line.specs.declared.node_line.InitLine.{InitLine}
use Rattle.wf_node_folder.specs.Fault.{IsFromSystem}
use Rattle.wf_node_folder.specs.From.{HasBadBytes, MayBeFrom, IsNotFrom}
use Rattle.wf_node_folder.specs.declared.fault.CommandFault.{CommandFault}
use Rattle.wf_node_folder.specs.declared.fault.CommandFault.TheVariants as faults
use Rattle.wf_node_folder.specs.declared.from_rejection.FromRejection.{FromRejection}
use Rattle.wf_rejoin.specs.JoiningText.{IsJoins, joins_text}
use Rattle.wf_rejoin.specs.declared.joining.Joining.{Joining}
use Rattle.wf_rejoin.specs.declared.joining.Stage.TheVariants.{Unasked}
use Rattle.wf_store.specs.Call.{Call, OnlyReads, counted, drawn, locked, made, replaced, unreplaced}
use Rattle.wf_store.specs.declared.file_name.FileName.TheVariants.{Farm, Joins, NodeTape}

-- the tape to begin with: an empty one, or that of `--from`, which can be that of the line's node
-- of a farm of as many
abbrev pub IsFirstTape : InitLine → List ℕ → Type 0
IsFirstTape line bytes = MatchOption line.from (bytes ≡ []) (λ from. MayBeFrom (path_file_name from.now) line.id line.nodes bytes)

-- The file is that of the line's node, which never started.
pub record IsFirstFile (line : InitLine) (file : NodeFile) : Type 0 where
  pub is : IsNodeFile file
  pub node : file.node ≡ line.id
  pub nodes : file.nodes ≡ line.nodes
  pub starts : file.starts ≡ 0
  pub farm : file.farm ≡ pad line.farm.now

-- the folder with this mark joins in the place of one that the line's node lost: nobody was asked
-- yet
abbrev pub first_joining : InitLine → List ℕ → Joining
first_joining line mark = record { node = line.id; nodes = line.nodes; replacement = record { count = 0; mark = mark }; stages = replicate 64 Unasked }

-- the mark was drawn, and the tape was written
abbrev pub with_tape : InitLine → (tape mark : List ℕ) → List Call → List Call
with_tape line tape mark old = replaced (NodeTape line.id) tape ∷ drawn mark ∷ old

-- then the file `joins`, if the folder joins
abbrev pub with_joins : InitLine → List ℕ → List Call → List Call
with_joins line mark old = if line.replaces then replaced Joins (joins_text (first_joining line mark)) ∷ old else old

-- The tape was written, then the file `joins` where the folder joins, and then the file `farm`,
-- whose mark was drawn before.
pub record IsFolderMade (line : InitLine) (tape : List ℕ) (old new : List Call) : Type 0 where
  pub file : NodeFile
  pub is_first : IsFirstFile line file
  pub calls : new ≡ replaced Farm (node_text file) ∷ with_joins line file.mark (with_tape line tape file.mark old)

-- The file `farm` that is to be the folder's was tried to be written after these calls, or its text
-- wasn't made.
pub record IsFirstFileTried (line : InitLine) (mark : List ℕ) (old new : List Call) : Type 0 where
  pub file : NodeFile
  pub is_first : IsFirstFile line file
  pub marked : file.mark ≡ mark
  pub calls : (new ≡ old) ⊎ (new ≡ unreplaced Farm (node_text file) ∷ old)

-- the file `joins` was tried to be written after these calls
abbrev pub IsFirstJoinsTried : InitLine → List ℕ → List Call → List Call → Type 0
IsFirstJoinsTried line mark old new = IsJoins (first_joining line mark) × (new ≡ unreplaced Joins (joins_text (first_joining line mark)) ∷ old)

-- They weren't all written: the file `farm` is the last one, and a file whose writing failed may be
-- there or not.
pub record IsHalfFilled (line : InitLine) (tape : List ℕ) (old new : List Call) : Type 0 where
  pub mark : List ℕ
  pub calls : (new ≡ unreplaced (NodeTape line.id) tape ∷ drawn mark ∷ old) ⊎ ((new ≡ with_tape line tape mark old)
      ⊎ (IsFirstJoinsTried line mark (with_tape line tape mark old) new ⊎ IsFirstFileTried line mark (with_joins line mark (with_tape line tape mark old)) new))

abbrev pub IsUnfilled : InitLine → List ℕ → List Call → List Call → Type 0
IsUnfilled line tape old new = OnlyReads old new ⊎ IsHalfFilled line tape old new

-- the calls of a folder that was made, if it wasn't there, then locked, and has no names
abbrev pub made_empty : List Call → List Call
made_empty old = counted 0 ∷ locked ∷ made ∷ old

-- The folder was made: it had no names, and got the file of a node that never started, and its
-- tape, which is empty where the folder joins.
pub record HasMade (line : InitLine) (old new : List Call) : Type 0 where
  pub tape : List ℕ
  pub begins : IsFirstTape line tape
  pub joins : line.replaces ≡ true → tape ≡ []
  pub filled : IsFolderMade line tape (made_empty old) new

-- It had no names, and didn't get all of them.
pub record IsHalfMade (line : InitLine) (old new : List Call) : Type 0 where
  pub tape : List ℕ
  pub begins : IsFirstTape line tape
  pub half : IsHalfFilled line tape (made_empty old) new

-- the tape in the file of `--from` can't be that of the line's node
abbrev pub IsFromRejected : InitLine → FromRejection → Type 0
IsFromRejected line why = MatchOption line.from ⊥ (λ from. IsNotFrom (path_file_name from.now) line.id line.nodes why)

-- why it isn't made, but for what is in the folder
abbrev pub IsInitCause : InitLine → CommandFault → Type 0
IsInitCause line (faults.Id id nodes) = (id ≡ line.id) × (nodes ≡ line.nodes) × (line.nodes ≤ line.id)
IsInitCause line faults.Name = ¬ (IsNameText line.farm.now)
IsInitCause line faults.ReplaceFrom = (line.replaces ≡ true) × IsSome line.from
IsInitCause line (faults.FromUnread kind) = IsSome line.from
IsInitCause line (faults.FromBad offset) = IsSome line.from × HasBadBytes offset
IsInitCause line (faults.BesideUnread kind) = IsSome line.from
IsInitCause line (faults.JoinsUnread kind) = IsSome line.from
IsInitCause line (faults.FromRejected why) = IsFromRejected line why
IsInitCause line fault = IsFromSystem fault

-- the folder has names, which were counted
abbrev pub HasNames : List Call → List Call → Type 0
HasNames old new = (names : ℕ) × (¬ (names ≡ 0)) × (new ≡ counted names ∷ locked ∷ made ∷ old)

abbrev pub IsWhyNotEmpty : List Call → List Call → CommandFault → Type 0
IsWhyNotEmpty old new (faults.NotEmpty why) = HasNames old new
IsWhyNotEmpty old new fault = IsFromSystem fault

-- why it wasn't made
abbrev pub IsInitFault : InitLine → List Call → List Call → CommandFault → Type 0
IsInitFault line old new (faults.NotEmpty why) = HasNames old new
IsInitFault line old new fault = IsInitCause line fault

-- What `init` did: it made the folder; or it ended with an error, and no file was changed, or not
-- all were written.
abbrev pub IsInitDone : InitLine → List Call → List Call → Result (Unit {0}) CommandFault → Type 0
IsInitDone line old new (Ok done) = HasMade line old new
IsInitDone line old new (Err fault) = IsInitFault line old new fault × (OnlyReads old new ⊎ IsHalfMade line old new)
