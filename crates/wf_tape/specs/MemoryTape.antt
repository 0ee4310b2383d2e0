-- A tape in memory: its bytes, of which the first are synced, its earlier states since it was made
-- or crashed, and its failures.
use Rattle.std.specs.Prelude.{◌≡◌, ◌⊎◌, ◌≤◌, ℕ, ◌+◌, zero, suc, nat_lt, nat_eq, List, [], ◌∷◌, ◌++◌, length, take, Option, Some, None, if◌then◌else◌}
use Rattle.wf_tape.specs.declared.memory.Earlier.{Earlier}
use Rattle.wf_tape.specs.declared.memory.Earlier.TheVariants.{Front, Replaced}
use Rattle.wf_tape.specs.declared.fault.TapeFault.{TapeFault}
use Rattle.wf_tape.specs.declared.fault.TapeFault.TheVariants.{Device, Memory}
use Rattle.wf_tape.specs.declared.memory.Fuse.{Fuse}
use Rattle.wf_tape.specs.Fuse.{fuse_at, count_down, burn}
use Rattle.wf_tape.specs.Tape.{IsPrefixOf, Call, Read, Append, Sync, Replace, last_count}

-- a state: the bytes, of which the first are synced
pub record TapeState : Type 0 where
  pub bytes : List ℕ
  pub synced : ℕ

-- the tape: its state, its earlier states, the latest first, the failure that is set, and the count
-- of the failures that were
pub record TapeValue : Type 0 where
  pub bytes : List ℕ
  pub synced : ℕ
  pub past : List TapeState
  pub fuse : Option Fuse
  pub failures : ℕ

-- what a crash in this state may leave: a prefix of the bytes that contains the synced ones
abbrev pub IsLeftBy : TapeState → List ℕ → Type 0
IsLeftBy state image = IsPrefixOf image state.bytes × IsPrefixOf (take state.synced state.bytes) image

-- what a crash now may leave, likewise
abbrev pub IsImageNow : TapeValue → List ℕ → Type 0
IsImageNow kept image = IsPrefixOf image kept.bytes × IsPrefixOf (take kept.synced kept.bytes) image

-- Of states in order, the latest first, the earliest stood at moment 0, the next one at moment 1,
-- and so on. A crash in one of them, at this moment or a later one, may leave the image.
unfoldable pub WasLeft : List TapeState → ℕ → List ℕ → Type 0
WasLeft [] moment image = ⊥
WasLeft (state ∷ older) moment image = ((moment ≤ length older) × IsLeftBy state image) ⊎ WasLeft older moment image

-- the state now
abbrev pub state_of : TapeValue → TapeState
state_of kept = record { bytes = kept.bytes; synced = kept.synced }

-- the moment now: the number of changes so far
abbrev pub moment_of : TapeValue → ℕ
moment_of kept = length kept.past

-- what a crash at this moment or a later one, up to now, could have left
abbrev pub IsLeftSince : TapeValue → ℕ → List ℕ → Type 0
IsLeftSince kept moment image = WasLeft (state_of kept ∷ kept.past) moment image

-- the states before these bytes, the latest first, by the notes on how to go back to each of them,
-- the latest first
unfoldable pub states_before : List ℕ → List Earlier → List TapeState
states_before bytes [] = []
states_before bytes (Front length synced ∷ older) = record { bytes = take length bytes; synced = synced } ∷ states_before (take length bytes) older
states_before bytes (Replaced content synced ∷ older) = record { bytes = content.items; synced = synced } ∷ states_before content.items older

-- ---- failures that are set

-- no failure is set
abbrev pub NeverFails : TapeValue → Type 0
NeverFails tape = tape.fuse ≡ None

-- the tape with this failure set, and no other
abbrev pub with_fuse : ℕ → ℕ → TapeValue → TapeValue
with_fuse call kept tape = record tape { fuse = fuse_at call kept }

-- the tape with one more call counted
abbrev pub counted : TapeValue → TapeValue
counted tape = record tape { fuse = count_down tape.fuse }

-- one more failure, unless the count is at its highest
unfoldable pub risen : ℕ → ℕ
risen count = if nat_eq count last_count then count else count + 1

-- the tape with one more failure counted
abbrev pub failed_once : TapeValue → TapeValue
failed_once tape = record tape { failures = risen tape.failures }

-- the tape with these bytes appended
abbrev pub appended : TapeValue → List ℕ → TapeValue
appended tape more = record tape { bytes = tape.bytes ++ more; past = state_of tape ∷ tape.past }

-- the tape with this content in place of its own, all of it synced
abbrev pub replaced : TapeValue → List ℕ → TapeValue
replaced tape content = record tape { bytes = content; synced = length content; past = state_of tape ∷ tape.past }

-- The tape with all its bytes synced. If they were, nothing has changed.
abbrev pub settled : TapeValue → TapeValue
settled tape = record tape {
  synced = length tape.bytes;
  past = if nat_lt tape.synced (length tape.bytes) then state_of tape ∷ tape.past else tape.past;
}

-- what a call leaves that doesn't fail
abbrev pub done : Call → TapeValue → TapeValue
done Read tape = tape
done (Append bytes) tape = appended tape bytes
done Sync tape = settled tape
done (Replace bytes) tape = replaced tape bytes

-- What a call leaves that fails and keeps so much: an append so many of the new bytes, at most all
-- of them; a replacement the old content for 0 and the new one otherwise; a read or a sync has
-- changed nothing.
abbrev pub cut_short : ℕ → Call → TapeValue → TapeValue
cut_short kept Read tape = tape
cut_short kept (Append bytes) tape = appended tape (take kept bytes)
cut_short kept Sync tape = tape
cut_short zero (Replace bytes) tape = tape
cut_short (suc kept) (Replace bytes) tape = replaced tape bytes

-- What a call leaves, of the tape with that call counted: the device fails if and only if the
-- failure that is set is this call's, which keeps so much. If an allocation fails, nothing has
-- changed.
abbrev pub IsLeftByCall : Call → Option ℕ → TapeValue → Option TapeFault → TapeValue → Type 0
IsLeftByCall call None tape None after = after ≡ done call tape
IsLeftByCall call None tape (Some Device) after = ⊥
IsLeftByCall call None tape (Some Memory) after = after ≡ tape
IsLeftByCall call (Some kept) tape None after = ⊥
IsLeftByCall call (Some kept) tape (Some Device) after = after ≡ failed_once (cut_short kept call tape)
IsLeftByCall call (Some kept) tape (Some Memory) after = after ≡ tape

-- A call: the tape before it, the error that was returned, if one was, and the tape after it.
unfoldable pub IsCalled : Call → TapeValue → Option TapeFault → TapeValue → Type 0
IsCalled call tape fault after = IsLeftByCall call (burn tape.fuse) (counted tape) fault after
