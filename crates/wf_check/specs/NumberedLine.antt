-- The line and the column of a byte offset in a file.
use Rattle.std.specs.Prelude.{ℕ, ◌+◌, ◌-◌, ◌&&◌, ◌==◌, nat_le, nat_lt, not, Bool, List, length, take, drop}
use Rattle.std.specs.List.{count_by, prefix_len, suffix_len}

-- LF, which ends a line
unfoldable pub is_feed : ℕ → Bool
is_feed byte = byte == 10

-- a byte of a line
unfoldable pub stays_in_line : ℕ → Bool
stays_in_line byte = not (is_feed byte)

-- the first byte of a character in UTF-8 (RFC 3629, section 3): all but 128 to 191, which continue
-- one
unfoldable pub starts_character : ℕ → Bool
starts_character byte = not (nat_le 128 byte && nat_lt byte 192)

-- the number of the line that follows these bytes, from 1
unfoldable pub line_number : List ℕ → ℕ
line_number before = 1 + count_by is_feed before

-- the bytes after the last line feed, or all if there is none
unfoldable pub last_line : List ℕ → List ℕ
last_line before = drop (length before - suffix_len stays_in_line before) before

-- the bytes before the first line feed, or all if there is none
unfoldable pub first_line : List ℕ → List ℕ
first_line after = take (prefix_len stays_in_line after) after

-- the number of characters of these bytes
unfoldable pub characters : List ℕ → ℕ
characters bytes = count_by starts_character bytes
