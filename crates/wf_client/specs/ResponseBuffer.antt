-- An answer, and how much of it was taken.
use Rattle.std.specs.Prelude.{◌≡◌, ◌+◌, ℕ, List, drop}
use Rattle.wf_stream.specs.Effects.{IsOneMore}

-- the bytes of the answer, how many of them were taken, and the number of failed writes
pub record Outgoing : Type 0 where
  pub bytes : List ℕ
  pub done : ℕ
  pub failures : ℕ

-- the bytes still to be taken
abbrev pub rest_of : Outgoing → List ℕ
rest_of o = drop o.done o.bytes

-- the next bytes were taken
abbrev pub IsTakenUp : ℕ → Outgoing → Outgoing → Type 0
IsTakenUp count old new = new ≡ record old { done = old.done + count }

-- a write failed: nothing was written
pub record FailsOnce (before after : Outgoing) : Type 0 where
  pub bytes : after.bytes ≡ before.bytes
  pub done : after.done ≡ before.done
  pub failures : IsOneMore before.failures after.failures
