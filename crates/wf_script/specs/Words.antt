-- The words of a line, and what a word is.
use Rattle.std.specs.Prelude.{◌==◌, ◌&&◌, ◌+◌, ◌-◌, ◌*◌, ℕ, Bool, true, false, not, List, [], ◌∷◌, length, nat_le, filter, codes, if◌then◌else◌, Result, Ok, Err}
use Rattle.std.specs.Char.{is_ascii_digit}
use Rattle.std.specs.List.{fold, list_all}
use Rattle.std.specs.Str.{bytes_eq, is_utf8}
use Rattle.wf_script.specs.Lines.{before}
use Rattle.wf_script.specs.ReadContract.{◌>>=◌}
use Rattle.wf_script.specs.declared.fault.Wrong.{Wrong}
use Rattle.wf_script.specs.declared.fault.Wrong.TheVariants.{BadLine}

-- the pieces between spaces; a piece is empty where there is nothing between two spaces
unfoldable pub pieces : List ℕ → List (List ℕ)
pieces [] = [] ∷ []
pieces (byte ∷ rest) = if byte == 32 then [] ∷ pieces rest else before byte (pieces rest)

abbrev pub is_word : List ℕ → Bool
is_word [] = false
is_word (byte ∷ rest) = true

-- the words of a line, which spaces separate
unfoldable pub words : List ℕ → List (List ℕ)
words line = filter is_word (pieces line)

-- whether a byte is a space, and whether it is in a word
abbrev pub is_space : ℕ → Bool
is_space byte = byte == 32

abbrev pub is_in_word : ℕ → Bool
is_in_word byte = not (byte == 32)

-- the most digits of a number
abbrev pub most_digits : ℕ
most_digits = 9

-- the number that decimal digits stand for
abbrev pub value : List ℕ → ℕ
value digits = fold (λ n digit. 10 * n + (digit - 48)) 0 digits

-- the number that a word is: 1 to 9 decimal digits
unfoldable pub number : List ℕ → Result ℕ Wrong
number word = if not (length word == 0) && nat_le (length word) most_digits && list_all is_ascii_digit word then Ok (value word) else Err BadLine

-- the text that a word is
unfoldable pub text_of : List ℕ → Result (List ℕ) Wrong
text_of word = if is_utf8 word then Ok word else Err BadLine

-- the first word and those after it; a word that is a text; a number; and no word at all: another
-- line is a bad one
unfoldable pub a_word : List (List ℕ) → Result (List ℕ × List (List ℕ)) Wrong
a_word [] = Err BadLine
a_word (word ∷ rest) = Ok (word, rest)

unfoldable pub a_text : List (List ℕ) → Result (List ℕ × List (List ℕ)) Wrong
a_text words = do
  word ← a_word words
  text ← text_of word.0
  Ok (text, word.1)

unfoldable pub a_number : List (List ℕ) → Result (ℕ × List (List ℕ)) Wrong
a_number words = do
  word ← a_word words
  n ← number word.0
  Ok (n, word.1)

unfoldable pub no_word : List (List ℕ) → Result (Unit {0}) Wrong
no_word [] = Ok tt
no_word (word ∷ rest) = Err BadLine

-- whether the first byte is a number sign
abbrev pub is_comment : List ℕ → Bool
is_comment [] = false
is_comment (byte ∷ rest) = byte == 35

abbrev pub is_none : List (List ℕ) → Bool
is_none [] = true
is_none (word ∷ rest) = false

-- whether a line is skipped: a comment, or without a word
unfoldable pub is_skipped : List ℕ → Bool
is_skipped line = if is_comment line then true else is_none (words line)

-- whether the words are this one
unfoldable pub is_only : List ℕ → List (List ℕ) → Bool
is_only word [] = false
is_only word (first ∷ rest) = bytes_eq first word && is_none rest

-- whether a line ends a map
unfoldable pub ends_map : List ℕ → Bool
ends_map line = is_only (codes "endmap") (words line)
