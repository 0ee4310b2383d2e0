-- The calls of a folder, the latest first: what was read of it and left in it.
use Rattle.std.specs.Prelude.{◌≡◌, ℕ, Bool, true, false, List, [], ◌∷◌, ◌++◌, Option, Some, None, option_map, Vec, if◌then◌else◌}
use Rattle.std.specs.declared.alloc.Global.{Global}
use Rattle.wf_folder.specs.declared.presence.Presence.{Presence}
use Rattle.wf_store.specs.declared.file_name.FileName.{FileName}
use Rattle.wf_store.specs.declared.call_kind.CallKind.{CallKind}
use Rattle.wf_store.specs.declared.call_kind.CallKind.TheVariants as kinds

-- A call: what it did, and the bytes that were read or written by it, if there are any.
pub record Call : Type 0 where
  pub kind : CallKind
  pub bytes : Option (List ℕ)

-- ---- the calls

-- the folder was made, or it was there
abbrev pub made : Call
made = record { kind = kinds.Makes; bytes = None }

-- whether the folder at its path is the one that is locked was seen
abbrev pub compared : Bool → Call
compared same = record { kind = kinds.Compares same; bytes = None }

-- its names were counted
abbrev pub counted : ℕ → Call
counted count = record { kind = kinds.Counts count; bytes = None }

-- the folder was locked
abbrev pub locked : Call
locked = record { kind = kinds.Locks; bytes = None }

-- these random bits were drawn
abbrev pub drawn : List ℕ → Call
drawn bits = record { kind = kinds.Draws bits; bytes = None }

-- whether a file is there was seen
abbrev pub seen : FileName → Presence → Call
seen file presence = record { kind = kinds.Sees file presence; bytes = None }

-- how long a file is was seen; None: the system didn't say
abbrev pub measured : FileName → Option ℕ → Call
measured file length = record { kind = kinds.Measures file length; bytes = None }

-- these first bytes of a file were read; None: there is no such file
abbrev pub read : FileName → Option (List ℕ) → Call
read file bytes = record { kind = kinds.Reads file; bytes = bytes }

-- a file was opened as a tape, and made if it was absent
abbrev pub opened : FileName → Call
opened file = record { kind = kinds.Opens file; bytes = None }

-- a file that was there was opened as a tape
abbrev pub opened_existing : FileName → Call
opened_existing file = record { kind = kinds.OpensExisting file; bytes = None }

-- a file's bytes are these since
abbrev pub replaced : FileName → List ℕ → Call
replaced file bytes = record { kind = kinds.Replaces file; bytes = Some bytes }

-- a call failed that changes no file
abbrev pub failed : Call
failed = record { kind = kinds.Fails; bytes = None }

-- a file wasn't opened: it may have been made, or not
abbrev pub failed_at : FileName → Call
failed_at file = record { kind = kinds.FailsAt file; bytes = None }

-- a replacement failed: a file's bytes are those from before, or these
abbrev pub unreplaced : FileName → List ℕ → Call
unreplaced file bytes = record { kind = kinds.FailsAt file; bytes = Some bytes }

-- the bytes of a file that was read
abbrev pub bytes_of : Option (Vec ℕ Global) → Option (List ℕ)
bytes_of found = option_map (λ bytes. bytes.items) found

-- ---- what they change

-- a file that was opened as a tape may change from then on
abbrev pub is_change : CallKind → Bool
is_change (kinds.Opens file) = true
is_change (kinds.OpensExisting file) = true
is_change (kinds.Replaces file) = true
is_change (kinds.FailsAt file) = true
is_change kind = false

-- the calls that changed a file, or may have, or by which it may change
abbrev pub changes : List Call → List Call
changes [] = []
changes (call ∷ earlier) = if is_change call.kind then call ∷ changes earlier else changes earlier

-- the first calls are these, and others came later
pub record IsAfter (earlier calls : List Call) : Type 0 where
  pub later : List Call
  pub is : calls ≡ later ++ earlier

-- calls came that changed nothing
pub record OnlyReads (earlier calls : List Call) : Type 0 where
  pub after : IsAfter earlier calls
  pub unchanged : changes calls ≡ changes earlier

-- ---- for the crate's own contracts

-- the call that a note is of
abbrev pub call_of : Option (Vec ℕ Global) × CallKind → Call
call_of note = record { kind = note.1; bytes = bytes_of note.0 }
