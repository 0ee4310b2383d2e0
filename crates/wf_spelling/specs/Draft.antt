-- A canonical text while it is written, piece by piece.
use Rattle.std.specs.Prelude.{◌≡◌, ◌+◌, ◌≤◌, ℕ, true, List, ◌++◌, length, vec_len, vec_capacity}
use Rattle.wf_spelling.specs.Canon.{counted, most_canon_bytes}
use Rattle.wf_spelling.specs.declared.draft.Draft.{Draft}

-- what was written so far is this text: its bytes are counted up to 2^64 - 1, and a whole draft
-- holds them all
pub record IsDraftOf (d : Draft) (text : List ℕ) : Type 0 where
  pub total : d.length ≡ counted (length text)
  pub whole : d.is_whole ≡ true → d.text.items ≡ text

-- with these bytes the text stays within the limit and within its capacity
pub record HasRoomForBytes (bytes : List ℕ) (d : Draft) : Type 0 where
  pub within : d.length + length bytes ≤ most_canon_bytes
  pub grown : vec_len d.text + length bytes ≤ vec_capacity d.text

-- these bytes were appended to what was written before
pub record Writes (before : Draft) (bytes : List ℕ) (after : Draft) : Type 0 where
  pub behind : (text : List ℕ) → IsDraftOf before text → IsDraftOf after (text ++ bytes)
