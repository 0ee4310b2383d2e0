-- What a file of a folder has, by the folder's calls.
use Rattle.std.specs.Prelude.{◌≡◌, ◌⊎◌, ℕ, Bool, true, false, List, [], ◌∷◌, Option, None, Some, if◌then◌else◌}
use Rattle.wf_store.specs.Call.{Call}
use Rattle.wf_store.specs.declared.call_kind.CallKind.{CallKind}
use Rattle.wf_store.specs.declared.call_kind.CallKind.TheVariants as kinds
use Rattle.wf_store.specs.declared.file_name.FileName.{FileName}
use Rattle.wf_store.specs.declared.file_name.FileName.TheVariants as names

abbrev pub is_farm : FileName → Bool
is_farm names.Farm = true
is_farm file = false

abbrev pub is_heard : FileName → Bool
is_heard names.Heard = true
is_heard file = false

abbrev pub is_replaced : FileName → Bool
is_replaced names.Replaced = true
is_replaced file = false

abbrev pub is_joins : FileName → Bool
is_joins names.Joins = true
is_joins file = false

-- it is the tape of a node or of a replica
abbrev pub is_tape : FileName → Bool
is_tape names.Farm = false
is_tape names.Heard = false
is_tape names.Joins = false
is_tape names.Replaced = false
is_tape (names.NodeTape node) = true
is_tape names.ReplicaTape = true

-- what was read of such a file last, or what it got by a call that succeeded
abbrev pub text_by : (FileName → Bool) → CallKind → (bytes earlier : Option (List ℕ)) → Option (List ℕ)
text_by is (kinds.Reads file) bytes earlier = if is file then bytes else earlier
text_by is (kinds.Replaces file) bytes earlier = if is file then bytes else earlier
text_by is kind bytes earlier = earlier

abbrev pub text_in : (FileName → Bool) → List Call → Option (List ℕ)
text_in is [] = None
text_in is (call ∷ earlier) = text_by is call.kind call.bytes (text_in is earlier)

-- ---- what becomes of it

-- it stays, whichever file it is
abbrev pub TextsStay : (old new : List Call) → Type 0
TextsStay old new = (is : FileName → Bool) → text_in is new ≡ text_in is old

-- a text was put in the place of a file; each other one stays
abbrev pub IsTextPut : FileName → List ℕ → (old new : List Call) → Type 0
IsTextPut file text old new = (is : FileName → Bool) → text_in is new ≡ (if is file then Some text else text_in is old)

-- it may have been
abbrev pub MayBeIn : FileName → List ℕ → (old new : List Call) → Type 0
MayBeIn file text old new = (is : FileName → Bool) → (text_in is new ≡ text_in is old) ⊎ (text_in is new ≡ (if is file then Some text else text_in is old))
