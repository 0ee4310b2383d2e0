-- Blocks read keyword by keyword: the effect of each on the slots.
use Rattle.std.specs.Prelude.{ℕ, zero, suc, nat_lt, if◌then◌else◌, List, [], ◌∷◌, ◌++◌, length, Option, Some, None, is_some}
use Rattle.std.specs.Option.{option_map_or}
use Rattle.wf_block.specs.Token.{Token}
use Rattle.wf_block.specs.Grammar.{◌>>=◌, choice, word, is_end}

-- a table of keywords, each with the reader of its arguments and their effect on the slots
abbrev pub Table : Type 0 → Type 0
Table S = List (List ℕ × (List Token → Option (S × List Token)))

-- a keyword that comes at most once: if its slot is empty, its arguments are read and stored by a
-- function
abbrev pub once : {A B S : Type 0} → Option A → (List Token → Option (B × List Token)) → (B → S) → List Token → Option (S × List Token)
once slot read kept tokens = if is_some slot then None else (read tokens >>= λ x. Some (kept x.0, x.1))

-- a keyword that may come again: its arguments are read, appended to those before, and stored by a
-- function
abbrev pub any_times : {A S : Type 0} → List A → (List Token → Option (A × List Token)) → (List A → S) → List Token → Option (S × List Token)
any_times list read kept tokens = read tokens >>= λ x. Some (kept (list ++ x.0 ∷ []), x.1)

-- the same, of a keyword that comes at most n times
abbrev pub again : {A S : Type 0} → ℕ → List A → (List Token → Option (A × List Token)) → (List A → S) → List Token → Option (S × List Token)
again most list read kept tokens = if nat_lt (length list) most then any_times list read kept tokens else None

-- the effect of a keyword, by a table of keywords
abbrev pub step_by : {S : Type 0} → Table S → List ℕ → List Token → Option (S × List Token)
step_by table keyword tokens = choice table keyword >>= λ step. step tokens

-- the effect of a keyword, by a table of keywords, or else by a function
abbrev pub step_or : {S : Type 0} → Table S → (List ℕ → List Token → Option (S × List Token)) → List ℕ → List Token → Option (S × List Token)
step_or table other keyword tokens = option_map_or (λ step. step tokens) (choice table keyword) (other keyword tokens)

-- the value that was read, stored in the slots by a function
abbrev pub put_into : {A S : Type 0} → (A → S) → Option (A × List Token) → Option (S × List Token)
put_into put read = read >>= λ x. Some (put x.0, x.1)

-- at most n keywords up to END, each with its effect on the slots
unfoldable pub fill : {S : Type 0} → (S → List ℕ → List Token → Option (S × List Token)) → ℕ → S → List Token → Option (S × List Token)
fill put zero settings tokens = None
fill put (suc most) settings tokens = do
  x ← word tokens
  if is_end x.0 then Some (settings, x.1) else put settings x.0 x.1 >>= λ y. fill put most y.0 y.1

-- a block: each of its keywords is at least one token
abbrev pub block : {S : Type 0} → (S → List ℕ → List Token → Option (S × List Token)) → S → List Token → Option (S × List Token)
block put settings tokens = fill put (length tokens) settings tokens
