-- What follows the whole records of a tape and was never synced: where a power cut kept the length
-- of an append and not its bytes, it reads as zeros.
use Rattle.std.specs.Prelude.{◌≡◌, ◌==◌, ◌+◌, ◌≤◌, ℕ, Bool, true, List, length, take}
use Rattle.std.specs.List.{list_all}
use Rattle.wf_journal.specs.Encoding.{header_length}
use Rattle.wf_journal.specs.KindTable.{most_body_bytes}
use Rattle.wf_tape.specs.Tape.{IsOnlyImage}

-- the number of bytes of the longest record
abbrev pub longest_record : ℕ
longest_record = header_length + most_body_bytes

-- the byte is zero
abbrev pub is_zero : ℕ → Bool
is_zero byte = byte == 0

-- At least one zero, nothing else, and no more of them than a record has bytes: a record that is
-- written begins with its version, which is 1 or 2, and no other is appended before it is synced.
pub record IsUnsynced (rest : List ℕ) : Type 0 where
  pub some : 1 ≤ length rest
  pub short : length rest ≤ longest_record
  pub zeros : list_all is_zero rest ≡ true

-- The new content is what the old one has before the offset, and the only image.
pub record HoldsFront (offset : ℕ) (old new : List ℕ) (images : List ℕ → Type 0) : Type 0 where
  pub content : new ≡ take offset old
  pub only : IsOnlyImage new images
