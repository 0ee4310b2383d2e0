-- What a header tells of its message's length. Used only in this crate's contracts.
use Rattle.std.specs.Prelude.{◌≡◌, ℕ, ◌+◌, ◌≤◌, ◌⊎◌, List, [], ◌∷◌, ◌++◌, length, min}
use Rattle.std.specs.Int.{w32, from_be_bytes}
use Rattle.wf_codec.specs.KindTable.{most_body_bytes}
use Rattle.wf_codec.specs.Encoding.{header_length}

-- The number of bytes of the message at the front, as far as its header is there: that of the
-- header, and of a body no longer than the longest.
unfoldable pub known_length : List ℕ → ℕ
known_length (version ∷ byte ∷ a ∷ b ∷ c ∷ d ∷ bytes) = header_length + min (from_be_bytes w32 (a ∷ b ∷ c ∷ d ∷ [])) most_body_bytes
known_length bytes = header_length

-- The piece's first bytes were moved behind the rest, and these are left: none, or the new rest has
-- the length that was wanted.
pub record IsFilled (rest piece new left : List ℕ) (wanted : ℕ) : Type 0 where
  pub moved : rest ++ piece ≡ new ++ left
  pub longer : length rest ≤ length new
  pub enough : (left ≡ []) ⊎ (wanted ≤ length new)
