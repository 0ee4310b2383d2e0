-- The calls by which a replica starts on its folder.
use Rattle.std.specs.Prelude.{◌≡◌, ◌≢◌, ◌⊎◌, ℕ, ⊤, List, [], ◌∷◌, ◌++◌, Result, Ok, Err, Some, None, IfErr}
use Rattle.wf_folder.specs.FarmFile.{first_line}
use Rattle.wf_folder.specs.Name.{pad}
use Rattle.wf_line.specs.declared.replica_line.ReplicaLine.{ReplicaLine}
use Rattle.wf_replica.specs.FarmFile.{kind_replica_line, replica_text}
use Rattle.wf_replica_command.specs.declared.fault.ReplicaFault.{ReplicaFault}
use Rattle.wf_replica_command.specs.declared.fault.ReplicaFault.TheVariants as faults
use Rattle.wf_store.specs.Call.{Call, OnlyReads, locked, counted, read, opened, replaced, unreplaced, failed, failed_at}
use Rattle.wf_store.specs.Fault.{IsWhyUnlisted, IsWhyUnlocked, IsWhyUnread, IsWhyUnwritten}
use Rattle.wf_store.specs.declared.file_name.FileName.TheVariants.{Farm, ReplicaTape}

-- The file `farm` has this text: it was read, or there was none, the folder was empty, and it was
-- written.
abbrev pub IsClaimed : List ℕ → List Call → List Call → Type 0
IsClaimed text old new = (new ≡ read Farm (Some text) ∷ old) ⊎ (new ≡ replaced Farm text ∷ counted 0 ∷ read Farm None ∷ old)

-- The folder isn't taken: no file was changed, or to write `farm`, with this text, in an empty
-- folder failed.
abbrev pub IsUnclaimed : List ℕ → List Call → List Call → Type 0
IsUnclaimed text old new = OnlyReads old new ⊎ (new ≡ unreplaced Farm text ∷ counted 0 ∷ read Farm None ∷ old)

-- It was looked for the tape, which was opened then, or couldn't be.
abbrev pub IsTapeLookedFor : List Call → List Call → Type 0
IsTapeLookedFor old [] = ⊥
IsTapeLookedFor old (call ∷ looked) = OnlyReads old looked × ((call ≡ opened ReplicaTape) ⊎ (call ≡ failed_at ReplicaTape))

-- ---- why it isn't taken

-- why bytes of a file `farm` aren't this text: their first line is another, or the second one isn't
-- that of a replica, or the farm's name is another
abbrev pub IsOtherText : List ℕ → List ℕ → ReplicaFault → Type 0
IsOtherText text bytes faults.Version = (rest : List ℕ) → bytes ≢ first_line ++ rest
IsOtherText text bytes faults.Kind = (after : List ℕ) × (bytes ≡ first_line ++ after) × ((rest : List ℕ) → after ≢ kind_replica_line ++ rest)
IsOtherText text bytes faults.OtherFarm = (rest : List ℕ) × (bytes ≡ first_line ++ (kind_replica_line ++ rest)) × (bytes ≢ text)
IsOtherText text bytes faults.Memory = ⊤
IsOtherText text bytes fault = ⊥

-- why the file isn't written: to write it failed
abbrev pub IsWhyUnwrittenText : List ℕ → List Call → List Call → ReplicaFault → Type 0
IsWhyUnwrittenText text old new (faults.Folder why) = IsWhyUnwritten Farm why × (new ≡ unreplaced Farm text ∷ old)
IsWhyUnwrittenText text old new faults.Memory = ⊤
IsWhyUnwrittenText text old new fault = ⊥

-- why it isn't made: the folder has names, which were counted; or to count them failed, or to write
-- it
abbrev pub IsWhyUnmadeText : List ℕ → List Call → List Call → ReplicaFault → Type 0
IsWhyUnmadeText text old new faults.NotEmpty = (names : ℕ) × (names ≢ 0) × (new ≡ counted names ∷ old)
IsWhyUnmadeText text old new (faults.Folder why) = (IsWhyUnlisted why × (new ≡ failed ∷ old)) ⊎ IsWhyUnwrittenText text (counted 0 ∷ old) new (faults.Folder why)
IsWhyUnmadeText text old new faults.Memory = ⊤
IsWhyUnmadeText text old new fault = ⊥

-- the bytes of the file `farm` were read, and aren't this text
abbrev pub IsOtherFound : List ℕ → List Call → List Call → ReplicaFault → Type 0
IsOtherFound text old new why = (bytes : List ℕ) × (new ≡ read Farm (Some bytes) ∷ old) × IsOtherText text bytes why

-- why a folder that is locked isn't taken: what was read of the file, or that there is none and the
-- folder isn't empty; or a call of the folder failed
abbrev pub IsReplicaFolderCause : List ℕ → List Call → List Call → ReplicaFault → Type 0
IsReplicaFolderCause text old new (faults.Folder why) = (IsWhyUnread Farm why × (new ≡ failed ∷ old)) ⊎ IsWhyUnmadeText text (read Farm None ∷ old) new (faults.Folder why)
IsReplicaFolderCause text old new faults.NotEmpty = IsWhyUnmadeText text (read Farm None ∷ old) new faults.NotEmpty
IsReplicaFolderCause text old new faults.Memory = ⊤
IsReplicaFolderCause text old new fault = IsOtherFound text old new fault

-- why no replica starts on a folder, as far as that is the cause: it wasn't locked, or isn't taken
abbrev pub IsReplicaStartCause : List ℕ → List Call → List Call → ReplicaFault → Type 0
IsReplicaStartCause text old new (faults.Folder why) = (IsWhyUnlocked why × (new ≡ failed ∷ old)) ⊎ IsReplicaFolderCause text (locked ∷ old) new (faults.Folder why)
IsReplicaStartCause text old new faults.NotEmpty = IsReplicaFolderCause text (locked ∷ old) new faults.NotEmpty
IsReplicaStartCause text old new faults.Version = IsReplicaFolderCause text (locked ∷ old) new faults.Version
IsReplicaStartCause text old new faults.Kind = IsReplicaFolderCause text (locked ∷ old) new faults.Kind
IsReplicaStartCause text old new faults.OtherFarm = IsReplicaFolderCause text (locked ∷ old) new faults.OtherFarm
IsReplicaStartCause text old new fault = ⊤

-- ---- a start

-- A replica has started on a folder that is locked: its file `farm` has this text, and only then
-- was the tape opened.
pub record IsStarted (text : List ℕ) (held new : List Call) : Type 0 where
  pub claimed : List Call
  pub farm : IsClaimed text held claimed
  pub tape : IsTapeLookedFor claimed new

-- No replica started, or it ended before it served: its folder was locked, and it started there or
-- the folder wasn't taken; or it wasn't locked, or not touched.
abbrev pub IsUnstarted : List ℕ → List Call → List Call → Type 0
IsUnstarted text old new = IsStarted text (locked ∷ old) new ⊎ IsUnclaimed text (locked ∷ old) new ⊎ (new ≡ failed ∷ old) ⊎ (new ≡ old)

-- The replica served: for all its turns, or until its sources ended it.
abbrev pub HasServedClients : Result (Unit {0}) ReplicaFault → Type 0
HasServedClients (Ok done) = ⊤
HasServedClients (Err (faults.Ended why)) = ⊤
HasServedClients (Err fault) = ⊥

-- What a run did to its folder: it was locked first, and then as above; or, if the replica didn't
-- serve, it wasn't locked, or not touched. An error of the folder has its cause there.
pub record IsReplicaRun (text : List ℕ) (old new : List Call) (result : Result (Unit {0}) ReplicaFault) : Type 0 where
  pub served : HasServedClients result → IsStarted text (locked ∷ old) new
  pub others : IsStarted text (locked ∷ old) new ⊎ IsUnclaimed text (locked ∷ old) new ⊎ (new ≡ failed ∷ old) ⊎ (new ≡ old)
  pub cause : IfErr result (IsReplicaStartCause text old new)

-- what the run of a command line did to its folder: the file `farm` is that of a replica of the
-- line's farm
abbrev pub IsLineRun : ReplicaLine → List Call → List Call → Result (Unit {0}) ReplicaFault → Type 0
IsLineRun line old new result = IsReplicaRun (replica_text (pad line.farm.now)) old new result
