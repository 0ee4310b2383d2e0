-- Readers of tokens: each returns the value at the front of a list of tokens and the tokens after
-- it, or None if the value isn't there. The blocks of a mapfile are made of them.
use Rattle.std.specs.Prelude.{ℕ, Bool, if◌then◌else◌, ℤ, List, [], ◌∷◌, codes, Option, Some, None, true, not, ◌&&◌}
use Rattle.std.specs.Result.{result_ok}
use Rattle.std.specs.Str.{str_eq_ignore_ascii_case, bytes_eq}
use Rattle.wf_text.specs.Number as micro
use Rattle.wf_text.specs.Text.{is_text}
use Rattle.wf_text.specs.ValueList.{is_value_list}
use Rattle.wf_text.specs.Number.{whole_between}
use Rattle.wf_block.specs.Token.{Token, Word, Quoted, Braced}
use Rattle.std.specs.List.{list_any}

-- the second reader reads the tokens that the first leaves
infixl 10 ◌>>=◌
abbrev pub ◌>>=◌ : {A B : Type 0} → Option A → (A → Option B) → Option B
None >>= f = None
(Some x) >>= f = f x

-- the value of the first entry that has this name, without regard to ASCII letter case
abbrev pub choice : {A : Type 0} → List (List ℕ × A) → List ℕ → Option A
choice [] name = None
choice (entry ∷ others) name = if str_eq_ignore_ascii_case name entry.0 then Some entry.1 else choice others name

-- whether a word is END
unfoldable pub is_end : List ℕ → Bool
is_end word = str_eq_ignore_ascii_case word (codes "END")

-- a word, such as a keyword
unfoldable pub word : List Token → Option (List ℕ × List Token)
word [] = None
word (Quoted bytes ∷ rest) = None
word (Braced inside ∷ rest) = None
word (Word bytes ∷ rest) = Some (bytes, rest)

-- an argument: the text of a string, or a word other than END; a list is an argument of EXPRESSION
-- alone
unfoldable pub argument : List Token → Option (List ℕ × List Token)
argument [] = None
argument (Quoted bytes ∷ rest) = Some (bytes, rest)
argument (Braced inside ∷ rest) = None
argument (Word bytes ∷ rest) = if is_end bytes then None else Some (bytes, rest)

-- a text
unfoldable pub text : List Token → Option (List ℕ × List Token)
text tokens = do
  x ← argument tokens
  if is_text x.0 then Some x else None

-- a list in braces
unfoldable pub value_list : List Token → Option (List ℕ × List Token)
value_list [] = None
value_list (Word bytes ∷ rest) = None
value_list (Quoted bytes ∷ rest) = None
value_list (Braced inside ∷ rest) = if is_value_list inside then Some (inside, rest) else None

-- one of a table's choices
unfoldable pub one_of : {A : Type 0} → List (List ℕ × A) → List Token → Option (A × List Token)
one_of table tokens = do
  x ← argument tokens
  value ← choice table x.0
  Some (value, x.1)

-- a number, in millionths
unfoldable pub number : List Token → Option (ℤ × List Token)
number tokens = do
  x ← argument tokens
  value ← result_ok (micro.number x.0)
  Some (value, x.1)

-- an integer in a range
unfoldable pub whole : ℕ → ℕ → List Token → Option (ℕ × List Token)
whole least most tokens = do
  x ← number tokens
  n ← whole_between least most x.0
  Some (n, x.1)

-- the END of a block
unfoldable pub end : List Token → Option (List Token)
end tokens = do
  x ← word tokens
  if is_end x.0 then Some x.1 else None

-- whether no two of the texts are equal, such as names or keys that may come once
unfoldable pub all_differ : List (List ℕ) → Bool
all_differ [] = true
all_differ (key ∷ keys) = not (list_any (bytes_eq key) keys) && all_differ keys
