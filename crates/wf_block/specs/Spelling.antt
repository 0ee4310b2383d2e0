-- How tokens are spelled as lines of a mapfile: single spaces between the tokens of a line, and LF.
use Rattle.std.specs.Prelude.{◌≡◌, ℕ, ℤ, ◌<◌, ◌^◌, ◌==◌, ◌&&◌, ◌||◌, not, Bool, true, false, if◌then◌else◌, List, [], ◌∷◌, ◌++◌, Some}
use Rattle.std.specs.Char.{is_ascii_digit}
use Rattle.std.specs.Fmt.{decimal}
use Rattle.std.specs.List.{flat_map, list_all, list_any}
use Rattle.std.specs.Str.{is_utf8}
use Rattle.wf_text.specs.Number.{IsMicro}
use Rattle.wf_text.specs.NumberText.{number_text}
use Rattle.wf_text.specs.Text.{is_text}
use Rattle.wf_text.specs.ValueList.{is_value_list}
use Rattle.wf_block.specs.Token.{Token, Word, Quoted, Braced, Between, is_plain, is_slash, tokens_from}

-- ---- spelling

-- the quote around a text: `"`, or `'` if the text contains `"`
abbrev pub quote_for : List ℕ → ℕ
quote_for text = if list_any (λ b. b == 34) text then 39 else 34

abbrev pub quoted : List ℕ → List ℕ
quoted text = quote_for text ∷ text ++ quote_for text ∷ []

abbrev pub braced : List ℕ → List ℕ
braced inside = 123 ∷ inside ++ 125 ∷ []

-- a word unchanged, a text in its quotes, a list in braces
abbrev pub spelled : Token → List ℕ
spelled (Word word) = word
spelled (Quoted text) = quoted text
spelled (Braced inside) = braced inside

-- tokens separated by single spaces, followed by LF
unfoldable pub line : List Token → List ℕ
line [] = 10 ∷ []
line (token ∷ []) = spelled token ++ 10 ∷ []
line (token ∷ next ∷ tokens) = spelled token ++ 32 ∷ line (next ∷ tokens)

-- lines, one after the other
abbrev pub text_of : List (List Token) → List ℕ
text_of lines = flat_map line lines

-- the tokens of all lines, in order
abbrev pub tokens_of : List (List Token) → List Token
tokens_of lines = flat_map (λ tokens. tokens) lines

-- ---- what may be spelled

-- a word that may be written: bytes of words, at least one, and the first isn't `/`
abbrev pub is_word : List ℕ → Bool
is_word [] = false
is_word (b ∷ bs) = not (is_slash b) && is_plain b && list_all is_plain bs

-- no byte of a text is this quote
abbrev pub lacks : ℕ → List ℕ → Bool
lacks q text = list_all (λ b. not (b == q)) text

-- a token whose spelling is read as that token
abbrev pub is_written : Token → Bool
is_written (Word w) = is_word w
is_written (Quoted text) = is_text text && lacks (quote_for text) text
is_written (Braced inside) = is_value_list inside

-- every token of every line is read back as that token
abbrev pub are_written : List (List Token) → Bool
are_written lines = list_all (list_all is_written) lines

-- a digit or `-` is at the front, as of the text of a number
abbrev pub begins_like_number : List ℕ → Bool
begins_like_number [] = false
begins_like_number (b ∷ bs) = is_ascii_digit b || b == 45

-- ---- theorems

abbrev pub LinesAreReadAgain : Type 0
LinesAreReadAgain = (lines : List (List Token)) → are_written lines ≡ true → tokens_from Between (text_of lines) ≡ Some (tokens_of lines)

abbrev pub LinesAreUtf8 : Type 0
LinesAreUtf8 = (lines : List (List Token)) → are_written lines ≡ true → is_utf8 (text_of lines) ≡ true

abbrev pub NumbersAreWords : Type 0
NumbersAreWords = (millionths : ℤ) → IsMicro millionths → is_word (number_text millionths) ≡ true

abbrev pub WholeNumbersAreWords : Type 0
WholeNumbersAreWords = (n : ℕ) → n < 2 ^ 64 → is_word (decimal n) ≡ true
