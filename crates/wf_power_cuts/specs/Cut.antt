-- What a power cut may leave of a folder's files, by the folder's calls.
use Rattle.std.specs.Prelude.{◌≡◌, ◌⊎◌, ℕ, nat_eq, ⊤, Bool, true, false, List, [], ◌∷◌, Option, Some, None}
use Rattle.wf_store.specs.Call.{Call}
use Rattle.wf_store.specs.declared.call_kind.CallKind.{CallKind}
use Rattle.wf_store.specs.declared.call_kind.CallKind.TheVariants as kinds
use Rattle.wf_store.specs.declared.file_name.FileName.{FileName}
use Rattle.wf_store.specs.declared.file_name.FileName.TheVariants.{Farm, Heard, Joins, NodeTape, Replaced, ReplicaTape}

-- both are one file
abbrev pub is_file : FileName → FileName → Bool
is_file Farm Farm = true
is_file Heard Heard = true
is_file Joins Joins = true
is_file Replaced Replaced = true
is_file (NodeTape a) (NodeTape b) = nat_eq a b
is_file ReplicaTape ReplicaTape = true
is_file a b = false

-- ---- what one call leaves
-- An image is the bytes under a name after the cut: none where no file is there.

-- of the file that a call is on, or of another
abbrev pub OfFile : Bool → Type 0 → Type 0 → Type 0
OfFile true on other = on
OfFile false on other = other

-- the bytes that a call was given; a file that it was to open may have been made, without bytes
abbrev pub WasGiven : Option (List ℕ) → List ℕ → Type 0
WasGiven None image = image ≡ []
WasGiven (Some bytes) image = image ≡ bytes

-- An image after a call, by what it could be before: a file that was replaced has the new bytes
-- alone, one whose replacement failed these or those from before. Of a file that was opened as a
-- tape the tape says from then on.
abbrev pub IsCutAfter : CallKind → Option (List ℕ) → FileName → (List ℕ → Type 0) → List ℕ → Type 0
IsCutAfter (kinds.Replaces named) bytes file before image = OfFile (is_file named file) (WasGiven bytes image) (before image)
IsCutAfter (kinds.FailsAt named) bytes file before image = OfFile (is_file named file) (before image ⊎ WasGiven bytes image) (before image)
IsCutAfter (kinds.Opens named) bytes file before image = OfFile (is_file named file) ⊤ (before image)
IsCutAfter (kinds.OpensExisting named) bytes file before image = OfFile (is_file named file) ⊤ (before image)
IsCutAfter kind bytes file before image = before image

-- inside a call: a file that is replaced has the bytes from before or the new ones
abbrev pub IsLeftIn : CallKind → Option (List ℕ) → FileName → (List ℕ → Type 0) → List ℕ → Type 0
IsLeftIn (kinds.Replaces named) bytes file before image = OfFile (is_file named file) (before image ⊎ WasGiven bytes image) (before image)
IsLeftIn (kinds.FailsAt named) bytes file before image = OfFile (is_file named file) (before image ⊎ WasGiven bytes image) (before image)
IsLeftIn (kinds.Opens named) bytes file before image = OfFile (is_file named file) ⊤ (before image)
IsLeftIn (kinds.OpensExisting named) bytes file before image = OfFile (is_file named file) ⊤ (before image)
IsLeftIn kind bytes file before image = before image

-- ---- what all calls leave
-- At first the folder is empty.

-- what a cut after these calls may leave of a file
unfoldable pub MayLeaveNow : List Call → FileName → List ℕ → Type 0
MayLeaveNow [] file image = image ≡ []
MayLeaveNow (call ∷ earlier) file image = IsCutAfter call.kind call.bytes file (MayLeaveNow earlier file) image

-- what a cut at one moment, between these calls or inside one of them, could have left of all files
unfoldable pub CouldLeave : List Call → (FileName → List ℕ) → Type 0
CouldLeave [] images = (file : FileName) → images file ≡ []
CouldLeave (call ∷ earlier) images = ((file : FileName) → IsLeftIn call.kind call.bytes file (MayLeaveNow earlier file) (images file)) ⊎ CouldLeave earlier images
