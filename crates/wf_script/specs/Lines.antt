-- The lines of a script, and how long a script is.
use Rattle.std.specs.Prelude.{◌≡◌, ◌==◌, ◌&&◌, not, ◌+◌, ℕ, Bool, false, List, [], ◌∷◌, length, filter, take, min, nat_lt, Option, Some, None, if◌then◌else◌}

-- how many lines end within the bytes
abbrev pub line_feeds : List ℕ → ℕ
line_feeds bytes = length (filter (λ byte. byte == 10) bytes)

-- whether a line feed is next
abbrev pub is_line_end : List ℕ → Bool
is_line_end [] = false
is_line_end (byte ∷ rest) = byte == 10

-- a byte before the first of these lines
abbrev pub before : ℕ → List (List ℕ) → List (List ℕ)
before byte [] = (byte ∷ []) ∷ []
before byte (line ∷ rest) = (byte ∷ line) ∷ rest

-- The lines of a text. A line feed ends a line, and the last line may end without one; a carriage
-- return right before a line feed is dropped.
unfoldable pub lines : List ℕ → List (List ℕ)
lines [] = []
lines (byte ∷ rest) = if byte == 10 then [] ∷ lines rest else (if byte == 13 && is_line_end rest then lines rest else before byte (lines rest))

-- a line that a line feed ended: it loses a carriage return at its end
unfoldable pub without_return : List ℕ → List ℕ
without_return [] = []
without_return (byte ∷ []) = if byte == 13 then [] else byte ∷ []
without_return (byte ∷ next ∷ rest) = byte ∷ without_return (next ∷ rest)

-- whether a byte ends no line
abbrev pub is_in_line : ℕ → Bool
is_in_line byte = not (byte == 10)

-- the number of the last line that was returned, and the lines that are left
pub record Lines : Type 0 where
  pub number : ℕ
  pub left : List (List ℕ)

-- how many lines they are with those that were returned
abbrev pub total : Lines → ℕ
total ls = ls.number + length ls.left

-- this line is returned
pub record IsNext (line : List ℕ) (old new : Lines) : Type 0 where
  pub left : old.left ≡ line ∷ new.left
  pub number : new.number ≡ old.number + 1

-- the longest script, in bytes
abbrev pub most_script_bytes : ℕ
most_script_bytes = 1048576

-- what is read of an input: its beginning, up to a byte more than the longest script
abbrev pub examined : List ℕ → List ℕ
examined input = take (most_script_bytes + 1) input

-- the most lines of a script
abbrev pub most_lines : ℕ
most_lines = 10000

-- the most maps of a script
abbrev pub most_maps : ℕ
most_maps = 64

-- the number of the line that byte k is on; lines are counted from 1
abbrev pub line_at : List ℕ → ℕ → ℕ
line_at bytes k = line_feeds (take k bytes) + 1

-- the line of the first byte over the limit
unfoldable pub over_bytes : List ℕ → Option ℕ
over_bytes bytes = if nat_lt most_script_bytes (length bytes) then Some (line_at bytes most_script_bytes) else None

-- the first line over the limit
unfoldable pub over_lines : List ℕ → Option ℕ
over_lines bytes = if nat_lt most_lines (length (lines bytes)) then Some (most_lines + 1) else None

abbrev pub lesser : Option ℕ → Option ℕ → Option ℕ
lesser None second = second
lesser (Some a) None = Some a
lesser (Some a) (Some b) = Some (min a b)

-- the line at which a text is over a limit of scripts: the lesser, where it has too many bytes and
-- too many lines
unfoldable pub over_limit : List ℕ → Option ℕ
over_limit bytes = lesser (over_bytes bytes) (over_lines bytes)
