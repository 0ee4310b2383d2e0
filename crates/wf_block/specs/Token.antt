-- The tokens of a mapfile (MapServer mapfile reference: words, strings in either quote, lists in
-- braces, comments), by an automaton that reads the text byte by byte.
use Rattle.std.specs.Prelude.{ℕ, Bool, not, ◌&&◌, ◌||◌, ◌==◌, nat_lt, if◌then◌else◌, List, [], ◌∷◌, ◌++◌, drop, nat_eq, Option, Some, None, map}
use Rattle.std.specs.List.{starts_with}
use Rattle.wf_text.specs.Text.{is_text}
use Rattle.wf_text.specs.ValueList.{is_value_list}
use Rattle.wf_block.specs.declared.token.Token.{Token as LexedToken}
use Rattle.wf_block.specs.declared.token.TokenKind.{TokenKind}
use Rattle.wf_block.specs.declared.token.TokenKind.TheVariants.{Word as WordKind, Quoted as QuotedKind, Braced as BracedKind}

-- what the grammar sees: a word, the text between two quotes, or the list between two braces
pub data Token : Type 0 where
  Word : List ℕ → Token
  Quoted : List ℕ → Token
  Braced : List ℕ → Token

-- space, TAB, CR or LF
unfoldable pub is_white : ℕ → Bool
is_white b = b == 32 || b == 9 || b == 13 || b == 10

-- `"` or `'`
unfoldable pub is_quote : ℕ → Bool
is_quote b = b == 34 || b == 39

-- `#`, which begins a comment to the end of the line
unfoldable pub is_hash : ℕ → Bool
is_hash b = b == 35

-- LF
unfoldable pub ends_line : ℕ → Bool
ends_line b = b == 10

-- `/` and `*`, the marks of a block comment
unfoldable pub is_slash : ℕ → Bool
is_slash b = b == 47

unfoldable pub is_star : ℕ → Bool
is_star b = b == 42

-- `{` and `}`, around a list
unfoldable pub opens_list : ℕ → Bool
opens_list b = b == 123

unfoldable pub closes_list : ℕ → Bool
closes_list b = b == 125

-- a byte of a word: printable ASCII other than quotes, `#`, the backslash and `( ) [ ] { }`
unfoldable pub is_plain : ℕ → Bool
is_plain b =
    nat_lt 32 b && nat_lt b 127 &&
    not (is_quote b || is_hash b || b == 92 || b == 40 || b == 41 || b == 91 || b == 93 || b == 123 || b == 125)

-- the state of the automaton
pub data TokenState : Type 0 where
  -- between tokens, where one may begin
  Between : TokenState
  -- after a `/` between tokens: it begins a comment, or is a word's first byte
  BehindSlash : TokenState
  LineComment : TokenState
  BlockComment : TokenState
  -- after a `*` in a block comment
  BehindStar : TokenState
  -- in a word, after these bytes of it
  InWord : List ℕ → TokenState
  -- in a string in this quote, after these bytes of it
  InString : ℕ → List ℕ → TokenState
  -- in a list, after these bytes of it
  InList : List ℕ → TokenState

-- the effect of one byte: a new state, the end of a token and a new state, or the text has no
-- tokens
pub data ByteStep : Type 0 where
  Goes : TokenState → ByteStep
  Ends : Token → TokenState → ByteStep
  Rejects : ByteStep

-- the step between tokens
unfoldable pub step_between : ℕ → ByteStep
step_between b =
    if is_white b then Goes Between else
    if is_hash b then Goes LineComment else
    if is_quote b then Goes (InString b []) else
    if is_slash b then Goes BehindSlash else
    if is_plain b then Goes (InWord (b ∷ [])) else
    if opens_list b then Goes (InList []) else Rejects

-- a word ends before white space, `#` or a quote; that byte then counts as one between tokens
unfoldable pub step_in_word : List ℕ → ℕ → ByteStep
step_in_word w b =
    if is_plain b then Goes (InWord (w ++ b ∷ [])) else
    if is_white b then Ends (Word w) Between else
    if is_hash b then Ends (Word w) LineComment else
    if is_quote b then Ends (Word w) (InString b []) else Rejects

-- a string ends at the next quote of its kind, and its bytes are a valid text
unfoldable pub step_in_string : ℕ → List ℕ → ℕ → ByteStep
step_in_string q s b =
    if b == q
    then (if is_text s then Ends (Quoted s) Between else Rejects)
    else Goes (InString q (s ++ b ∷ []))

-- a list ends at the next `}`, and its bytes are a valid list: quotes and `#` are bytes like others
unfoldable pub step_in_list : List ℕ → ℕ → ByteStep
step_in_list s b =
    if closes_list b
    then (if is_value_list s then Ends (Braced s) Between else Rejects)
    else Goes (InList (s ++ b ∷ []))

unfoldable pub step : TokenState → ℕ → ByteStep
step Between b = step_between b
step BehindSlash b = if is_star b then Goes BlockComment else step_in_word (47 ∷ []) b
step LineComment b = if ends_line b then Goes Between else Goes LineComment
step BlockComment b = if is_star b then Goes BehindStar else Goes BlockComment
step BehindStar b =
    if is_slash b then Goes Between else if is_star b then Goes BehindStar else Goes BlockComment
step (InWord w) b = step_in_word w b
step (InString q s) b = step_in_string q s b
step (InList s) b = step_in_list s b

-- at the end of the text: a word and a line comment end there, a string, a list and a block comment
-- don't
unfoldable pub at_end : TokenState → Option (List Token)
at_end Between = Some []
at_end BehindSlash = Some (Word (47 ∷ []) ∷ [])
at_end LineComment = Some []
at_end BlockComment = None
at_end BehindStar = None
at_end (InWord w) = Some (Word w ∷ [])
at_end (InString q s) = None
at_end (InList s) = None

-- a token followed by those of the rest, if the rest has tokens
abbrev pub prepend : Token → Option (List Token) → Option (List Token)
prepend t None = None
prepend t (Some ts) = Some (t ∷ ts)

-- tokens followed by those of the rest, if the rest has tokens
abbrev pub prepend_all : List Token → Option (List Token) → Option (List Token)
prepend_all [] rest = rest
prepend_all (t ∷ ts) rest = prepend t (prepend_all ts rest)

abbrev pub follow : ByteStep → (TokenState → Option (List Token)) → Option (List Token)
follow (Goes p) rest = rest p
follow (Ends t p) rest = prepend t (rest p)
follow Rejects rest = None

-- the tokens of the rest of a text, from a state
unfoldable pub tokens_from : TokenState → List ℕ → Option (List Token)
tokens_from p [] = at_end p
tokens_from p (b ∷ bs) = follow (step p b) (λ q. tokens_from q bs)

-- the text without a leading byte order mark
unfoldable pub without_mark : List ℕ → List ℕ
without_mark bs = if starts_with nat_eq bs (239 ∷ 187 ∷ 191 ∷ []) then drop 3 bs else bs

-- the tokens of a whole text: none if it contains a byte that no token may hold, a string that
-- isn't a valid text, a list that isn't a valid one, or a string, list or block comment that
-- doesn't end
unfoldable pub tokens : List ℕ → Option (List Token)
tokens bs = tokens_from Between (without_mark bs)

-- the value of a token of the lexer: its kind and its bytes, without its byte offset
abbrev pub value_of_kind : TokenKind → List ℕ → Token
value_of_kind WordKind bytes = Word bytes
value_of_kind QuotedKind bytes = Quoted bytes
value_of_kind BracedKind bytes = Braced bytes

abbrev pub token_value : LexedToken → Token
token_value t = value_of_kind t.kind t.text.now

abbrev pub token_values : List LexedToken → List Token
token_values ts = map token_value ts
