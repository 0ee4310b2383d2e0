-- What the lexer's steps return: definitions for their contracts. The tokens of a text are defined
-- in `Token`.
use Rattle.std.specs.Prelude.{ℕ, ◌<◌, ◌≤◌, Bool, true, false, not, ◌&&◌, ◌||◌, ◌==◌, List, [], ◌∷◌, length, Option, Some, None, ⊤}
use Rattle.wf_block.specs.declared.lexeme.Lexeme.{Lexeme}
use Rattle.wf_block.specs.declared.lexeme.Lexeme.TheVariants.{Gap, Found, End, Fault}
use Rattle.wf_block.specs.Token.{Token, Between, is_white, is_hash, is_quote, is_slash, is_star, closes_list, prepend, tokens_from, value_of_kind}

-- the tokens of a text with this at its front
abbrev pub tokens_by : Lexeme → Option (List Token)
tokens_by (Gap after) = tokens_from Between after.now
tokens_by (Found kind text after) = prepend (value_of_kind kind text.now) (tokens_from Between after.now)
tokens_by End = Some []
tokens_by (Fault kind at) = None

-- the rest is shorter than n bytes; an error is within n bytes of the end
abbrev pub IsNearEnd : ℕ → Lexeme → Type 0
IsNearEnd n (Gap after) = length after.now < n
IsNearEnd n (Found kind text after) = length after.now < n
IsNearEnd n End = ⊤
IsNearEnd n (Fault kind at) = length at.now ≤ n

-- whether an element that passes the test is at the front
abbrev pub begins : {X : Type 0} → (X → Bool) → List X → Bool
begins test [] = false
begins test (x ∷ xs) = test x

-- whether a block comment's mark, `/*`, is at the front
unfoldable pub opens_comment : List ℕ → Bool
opens_comment [] = false
opens_comment (b ∷ bs) = is_slash b && begins is_star bs

-- whether a word may end here: at the end, or before white space, `#` or a quote
unfoldable pub ends_word : List ℕ → Bool
ends_word [] = true
ends_word (b ∷ bs) = is_white b || is_hash b || is_quote b

-- whether a byte is inside a string in this quote: it isn't the quote
abbrev pub goes_on : ℕ → ℕ → Bool
goes_on q b = not (b == q)

-- whether a byte is inside a list: it isn't the closing brace
abbrev pub stays_in_list : ℕ → Bool
stays_in_list b = not (closes_list b)
