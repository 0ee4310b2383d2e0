-- What a text of a map definition may hold.
use Rattle.std.specs.Prelude.{◌≡◌, ℕ, ◌<◌, ◌≤◌, Bool, true, false, List, length, nat_lt, nat_le, ◌==◌, ◌&&◌, ◌||◌, not}
use Rattle.std.specs.Str.{chars, is_utf8}
use Rattle.std.specs.List.{list_all, list_any}
use Rattle.wf_text.specs.declared.fault.TextFault.{TextFault}
use Rattle.wf_text.specs.declared.fault.TextFault.TheVariants.{OutOfMemory, TooLong, NotUtf8, ForbiddenCharacter, BothQuotes}
use Rattle.wf_text.specs.Limit.{most_text_bytes}

-- TAB, LF or CR
abbrev pub is_layout : ℕ → Bool
is_layout c = c == 9 || c == 10 || c == 13

-- a text may contain the character: no control character but TAB, LF and CR, no backslash, not
-- U+FFFE or U+FFFF
abbrev pub is_text_character : ℕ → Bool
is_text_character c = not (nat_lt c 32 && not (is_layout c)) && not (c == 92) && not (c == 0xFFFE) && not (c == 0xFFFF)

-- the text contains a `"` and a `'`, so it fits between neither
abbrev pub has_both_quotes : List ℕ → Bool
has_both_quotes bytes = list_any (λ b. b == 34) bytes && list_any (λ b. b == 39) bytes

-- the bytes are a text
unfoldable pub is_text : List ℕ → Bool
is_text bytes = nat_le (length bytes) most_text_bytes && is_utf8 bytes && list_all is_text_character (chars bytes) && not (has_both_quotes bytes)

abbrev pub IsText : List ℕ → Type 0
IsText bytes = is_text bytes ≡ true

-- the error is allocation failure, which says nothing about the bytes
abbrev pub is_memory : TextFault → Bool
is_memory OutOfMemory = true
is_memory TooLong = false
is_memory NotUtf8 = false
is_memory ForbiddenCharacter = false
is_memory BothQuotes = false

-- The error is the first that applies to the bytes: length, then UTF-8, then characters, then
-- quotes. Allocation fails only for a valid text, when it is copied.
abbrev pub IsFirstFault : TextFault → List ℕ → Type 0
IsFirstFault TooLong bytes = most_text_bytes < length bytes
IsFirstFault NotUtf8 bytes = (length bytes ≤ most_text_bytes) × (is_utf8 bytes ≡ false)
IsFirstFault ForbiddenCharacter bytes = (length bytes ≤ most_text_bytes) × (is_utf8 bytes ≡ true) × (list_all is_text_character (chars bytes) ≡ false)
IsFirstFault BothQuotes bytes =
    (length bytes ≤ most_text_bytes) × (is_utf8 bytes ≡ true) × (list_all is_text_character (chars bytes) ≡ true) × (has_both_quotes bytes ≡ true)
IsFirstFault OutOfMemory bytes = IsText bytes
