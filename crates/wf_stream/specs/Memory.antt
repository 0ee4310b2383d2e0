-- The state of a reader and of a writer over memory.
use Rattle.std.specs.Prelude.{◌≡◌, ℕ, ◌-◌, ◌==◌, Bool, false, List, Option, Some, None}
use Rattle.wf_stream.specs.Effects.{IsOneMore}

-- a reader: the bytes still to be read, the most bytes that a call returns, the number of calls
-- before those that fail, if any do, and the number of failed calls
pub record Reader : Type 0 where
  pub left : List ℕ
  pub piece : ℕ
  pub until_failure : Option ℕ
  pub failures : ℕ

-- the next call fails
abbrev pub is_due : Option ℕ → Bool
is_due None = false
is_due (Some calls) = calls == 0

-- the number of calls before those that fail, after one more of them
abbrev pub one_fewer : Option ℕ → Option ℕ
one_fewer None = None
one_fewer (Some calls) = Some (calls - 1)

-- a writer: the bytes written, how many more it accepts, and the number of failed calls
pub record Writer : Type 0 where
  pub written : List ℕ
  pub room : ℕ
  pub failures : ℕ

-- one call failed: nothing was written, and the writer accepts as many bytes as before
pub record FailsOnce (before after : Writer) : Type 0 where
  pub written : after.written ≡ before.written
  pub room : after.room ≡ before.room
  pub failures : IsOneMore before.failures after.failures
