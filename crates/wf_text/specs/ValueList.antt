-- What the inside of a list `{..}` may hold.
use Rattle.std.specs.Prelude.{◌≡◌, ℕ, Bool, true, List, length, nat_le, ◌==◌, ◌&&◌, ◌||◌, not}
use Rattle.std.specs.Str.{chars, is_utf8}
use Rattle.std.specs.List.{list_all}
use Rattle.wf_text.specs.Limit.{most_text_bytes}
use Rattle.wf_text.specs.Text.{is_text_character}

-- a byte that may stand in a list: not `{`, `}`, LF or CR
abbrev pub is_list_byte : ℕ → Bool
is_list_byte b = not (b == 123 || b == 125 || b == 10 || b == 13)

-- the bytes are the inside of a list: no more of them than a text may have, UTF-8 of characters
-- that a text may contain, without braces and line ends. Quotes of both kinds may stand in it.
unfoldable pub is_value_list : List ℕ → Bool
is_value_list bytes = nat_le (length bytes) most_text_bytes && is_utf8 bytes && list_all is_text_character (chars bytes) && list_all is_list_byte bytes

abbrev pub IsValueList : List ℕ → Type 0
IsValueList bytes = is_value_list bytes ≡ true
