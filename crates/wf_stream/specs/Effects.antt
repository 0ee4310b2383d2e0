-- The effect of a reader's or a writer's calls on known bytes, and on the count of failures.
use Rattle.std.specs.Prelude.{◌≡◌, ◌≢◌, ◌+◌, ◌-◌, ◌^◌, ◌≤◌, ◌++◌, ℕ, max, min, List, length, Option, Result, MatchResult, IfOk, IfSome}
use Rattle.std.specs.IoError.{error_kind}
use Rattle.std.specs.Io.KnownBytes.{Appends, Consumes}
use Rattle.std.specs.declared.io.Error.{Error}
use Rattle.std.specs.declared.io.ErrorKind.TheVariants.{OutOfMemory}

-- the count increased; at the greatest 64-bit value it counts as increased
abbrev pub Rises : ℕ → ℕ → Type 0
Rises old new = min (old + 1) (2 ^ 64 - 1) ≤ new

-- the count increased by one; at the greatest 64-bit value it stays
abbrev pub IsOneMore : ℕ → ℕ → Type 0
IsOneMore old new = new ≡ min (old + 1) (2 ^ 64 - 1)

-- the count increased if the call failed, and is unchanged otherwise
abbrev pub Counts : {T E : Type 0} → Result T E → ℕ → ℕ → Type 0
Counts result old new = MatchResult result (λ _. new ≡ old) (λ _. Rises old new)

-- the most calls of one stream that signals may interrupt
abbrev pub most_interruptions : ℕ
most_interruptions = 200000

-- some more calls were interrupted, and none past the most
abbrev pub Interrupts : ℕ → ℕ → Type 0
Interrupts old new = (old ≤ new) × (new ≤ max old most_interruptions)

-- an error of reading into memory: an allocation or a read failed
abbrev pub IsReadError : ℕ → ℕ → Error → Type 0
IsReadError old new error = error_kind error ≢ OutOfMemory → Rises old new

-- `OutOfMemory` is never a reader's own error: an allocation for the read bytes failed, and no read
-- has failed
abbrev pub IsMemoryAlone : ℕ → ℕ → Error → Type 0
IsMemoryAlone old new error = error_kind error ≡ OutOfMemory → new ≡ old

-- a call returns at most the reader's greatest number of bytes, if known, which stays unchanged
abbrev pub GivesUpTo : {E : Type 0} → Option ℕ → Option ℕ → Result ℕ E → Type 0
GivesUpTo old new result = (new ≡ old) × IfOk result (λ count. IfSome old (λ most. count ≤ most))

-- at most `limit` bytes were taken from the front of what is left
abbrev pub TakesUpTo : ℕ → Option (List ℕ) → Option (List ℕ) → Type 0
TakesUpTo limit old new = (bytes : List ℕ) × (length bytes ≤ limit) × Consumes old new bytes

-- `count` bytes were taken from the front of what is left, and appended
abbrev pub ReadsPiece : ℕ → Option (List ℕ) → Option (List ℕ) → List ℕ → List ℕ → Type 0
ReadsPiece count old new before after =
    (piece : List ℕ) × (length piece ≡ count) × Consumes old new piece × (after ≡ before ++ piece)

-- These bytes were written without a failure; then a call failed, and no call came after it.
pub record EndsByFailing {S : Type 0} (written : S → Option (List ℕ)) (failures : S → ℕ) (fails : S → S → Type 0) (bytes : List ℕ) (old new : S) : Type 0 where
  -- the writer before the call that failed
  pub before : S
  pub appended : Appends (written old) (written before) bytes
  pub calm : failures before ≡ failures old
  pub failed : fails before new
