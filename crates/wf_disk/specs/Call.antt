-- The calls of a disk, and what each leaves.
use Rattle.std.specs.Prelude.{◌≡◌, ◌⊎◌, ◌≤◌, ℕ, true, List, [], ◌∷◌, ◌++◌, Option, Some, None, option_map, Result, Ok, Err, IsErrOf, if◌then◌else◌}
use Rattle.wf_disk.specs.declared.fault.DiskFault.{DiskFault}
use Rattle.wf_disk.specs.declared.fault.DiskFault.TheVariants.{Device, Memory}
use Rattle.wf_disk.specs.declared.folder.Name.{Name}
use Rattle.wf_disk.specs.declared.folder.Name.TheVariants.{Own, Second}
use Rattle.wf_disk.specs.Moments.{IsPrefixOf, HasRisen}
use Rattle.wf_disk.specs.Folder.{File, Folder, bytes_of, empty_file, whole}

-- a call of a disk
pub data Call : Type 0 where
  Open : Call
  Make : Call
  Append : (name : Name) (bytes : List ℕ) → Call
  Sync : (name : Name) → Call
  Rename : Call
  SyncNames : Call
  Read : Call

-- the error that was returned, if one was
abbrev pub error_of : {A : Type 0} → Result A DiskFault → Option DiskFault
error_of (Ok x) = None
error_of (Err fault) = Some fault

-- ---- files

-- the file with more bytes at its end, none of them synced
abbrev pub extended : List ℕ → File → File
extended bytes file = record file { rest = file.rest ++ bytes }

-- The file after a sync that succeeded: all its bytes are synced, unless it is doubtful, and then
-- nothing more is known.
abbrev pub synced : File → File
synced file = if file.doubtful then file else whole (bytes_of file)

-- the file after a sync that failed
abbrev pub doubted : File → File
doubted file = record file { doubtful = true }

-- the file under a name
abbrev pub file_at : Name → Folder → Option File
file_at Own folder = folder.own
file_at Second folder = folder.second

-- the folder with the file under a name changed, if there is one
abbrev pub changed_at : Name → (File → File) → Folder → Folder
changed_at Own change folder = record folder { own = option_map change folder.own }
changed_at Second change folder = record folder { second = option_map change folder.second }

-- ---- calls that succeed

-- A file that was absent is made under the own name, and until the names are synced a power cut may
-- take it away again.
unfoldable pub opened_over : Option File → Folder → Folder
opened_over None folder = record folder { own = Some empty_file; earlier = None ∷ folder.earlier }
opened_over (Some file) folder = folder

-- what the call leaves if it succeeds
abbrev pub done : Call → Folder → Folder
done Open folder = opened_over folder.own folder
done Make folder = record folder { second = Some empty_file }
done (Append name bytes) folder = changed_at name (extended bytes) folder
done (Sync name) folder = changed_at name synced folder
done Rename folder = record { own = folder.second; second = None; earlier = folder.own ∷ folder.earlier }
done SyncNames folder = record folder { earlier = [] }
done Read folder = folder

-- there is a file under the name
abbrev pub IsThere : Name → Folder → Type 0
IsThere name folder = (file : File) × (file_at name folder ≡ Some file)

-- the file that the call is about is there
abbrev pub HasItsFile : Call → Folder → Type 0
HasItsFile (Append name bytes) folder = IsThere name folder
HasItsFile (Sync name) folder = IsThere name folder
HasItsFile Rename folder = IsThere Second folder
HasItsFile Read folder = IsThere Own folder
HasItsFile call folder = Unit {0}

-- ---- calls that fail

-- What the call may leave if the device fails: an append a prefix of its bytes; a sync a doubtful
-- file; to open or to rename has been done or not; to make may have changed the second file,
-- whatever it is then.
abbrev pub IsCut : Call → Folder → Folder → Type 0
IsCut (Append name bytes) old new = (front : List ℕ) × IsPrefixOf front bytes × (new ≡ changed_at name (extended front) old)
IsCut (Sync name) old new = new ≡ changed_at name doubted old
IsCut Open old new = (new ≡ old) ⊎ (new ≡ done Open old)
IsCut Rename old new = (new ≡ old) ⊎ (new ≡ done Rename old)
IsCut Make old new = (second : Option File) × (new ≡ record old { second = second })
IsCut call old new = new ≡ old

-- What a call leaves: the folder before it, the error that was returned, if one was, and the folder
-- after it.
abbrev pub IsLeft : Call → Folder → Option DiskFault → Folder → Type 0
IsLeft call old None new = HasItsFile call old × (new ≡ done call old)
IsLeft call old (Some Device) new = IsCut call old new
IsLeft call old (Some Memory) new = new ≡ old

-- The device's failures are counted: its error is returned if and only if one was.
pub record IsCounted {A : Type 0} (before now : ℕ) (result : Result A DiskFault) : Type 0 where
  pub device : IsErrOf result Device → HasRisen before now
  pub later : before ≤ now
  pub none : (IsErrOf result Device → ⊥) → now ≡ before

-- allocation didn't fail
abbrev pub IsNotOutOfMemory : {A : Type 0} → Result A DiskFault → Type 0
IsNotOutOfMemory result = IsErrOf result Memory → ⊥
