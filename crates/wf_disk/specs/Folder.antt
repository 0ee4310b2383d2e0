-- A folder with one file under its own name and one under a second name, and what a power cut may
-- leave of it.
use Rattle.std.specs.Prelude.{◌≡◌, ◌⊎◌, ℕ, Bool, false, List, [], ◌∷◌, ◌++◌, Option, Some, None}
use Rattle.wf_disk.specs.Moments.{IsPrefixOf}

-- A file: the bytes that are synced, and those after them that aren't. It is doubtful from its
-- first failed sync on: the system may have dropped what that sync didn't write, so a later one may
-- return success and leave bytes unwritten.
pub record File : Type 0 where
  pub synced : List ℕ
  pub rest : List ℕ
  pub doubtful : Bool

-- A folder: the file under the own name, the file under the second name, and what a power cut may
-- put back under the own name until the names are synced, the latest first. None is no file.
pub record Folder : Type 0 where
  pub own : Option File
  pub second : Option File
  pub earlier : List (Option File)

-- a file's bytes
abbrev pub bytes_of : File → List ℕ
bytes_of file = file.synced ++ file.rest

-- the bytes under a name; where no file is, none
abbrev pub bytes_in : Option File → List ℕ
bytes_in None = []
bytes_in (Some file) = bytes_of file

-- a file without bytes
abbrev pub empty_file : File
empty_file = record { synced = []; rest = []; doubtful = false }

-- a file with these bytes, all of them synced
abbrev pub whole : List ℕ → File
whole bytes = record { synced = bytes; rest = []; doubtful = false }

-- A power cut leaves of a file the synced bytes and a prefix of the rest, and of no file no bytes.
unfoldable pub IsLeftOf : Option File → List ℕ → Type 0
IsLeftOf None image = image ≡ []
IsLeftOf (Some file) image = (kept : List ℕ) × IsPrefixOf kept file.rest × (image ≡ file.synced ++ kept)

-- it leaves this of one of these files
unfoldable pub IsLeftOfOne : List (Option File) → List ℕ → Type 0
IsLeftOfOne [] image = ⊥
IsLeftOfOne (file ∷ others) image = IsLeftOf file image ⊎ IsLeftOfOne others image

-- A power cut may leave these bytes under the own name: of the file that is there, or of one that
-- it puts back.
abbrev pub MayLeave : Folder → List ℕ → Type 0
MayLeave folder image = IsLeftOf folder.own image ⊎ IsLeftOfOne folder.earlier image

-- A power cut: under the own name is what it may leave, all of it synced, and that name is synced.
-- Of the second name nothing is known.
pub record IsCrashed (old new : Folder) : Type 0 where
  pub left : MayLeave old (bytes_in new.own)
  pub synced : (new.own ≡ None) ⊎ (new.own ≡ Some (whole (bytes_in new.own)))
  pub names : new.earlier ≡ []

-- The end of a process: it is killed, and the folder stays as it is, unsynced bytes and names too;
-- or the power is cut.
abbrev pub IsProcessEnded : Folder → Folder → Type 0
IsProcessEnded old new = (new ≡ old) ⊎ IsCrashed old new

-- the own file is there, and its bytes and its name are synced
pub record IsSynced (folder : Folder) (bytes : List ℕ) : Type 0 where
  pub own : folder.own ≡ Some (whole bytes)
  pub names : folder.earlier ≡ []
