-- Lines that are written for a block are read keyword by keyword, whatever follows, and each of
-- their tokens as it was written.
--
-- A line, or a keyword with the lines of its block, is one step: it takes the slots from one state
-- to the next. So concatenated lines, or lines written for each element of a list, take the slots
-- from the first state to the last.
use Rattle.std.proofs.Common.{◌≡◌, ℕ, zero, suc, ◌-◌, ◌≤◌, ltb, Bool, true, false, not, ◌&&◌, List, [], ◌∷◌, ◌++◌, length, All, Option, Some, None, refl, sym, ap, ◌∙◌, append_assoc, length-append, arith}
use Rattle.std.specs.Prelude.{codes, IfSome, sum_by}
use Rattle.std.specs.List.{flat_map, list_all, Contains}
use Rattle.std.proofs.lemmas.Bool.{lt-ltb}
use Rattle.std.proofs.lemmas.List.{append-nil}
use Rattle.std.proofs.lemmas.List.Concat.{flat_map-append}
use Rattle.std.proofs.lemmas.List.Elements.{All-contains, All-same, Contains-append_right}
use Rattle.std.proofs.lemmas.List.Folds.{list_all-append}
use Rattle.std.proofs.lemmas.List.Sums.{sum_by-append, sum_by-cons}
use Rattle.wf_text.specs.Booleans.{and_left, and_right, not_true}
use Rattle.wf_block.specs.Token.{Token, Word, is_plain, is_slash, is_quote, is_hash}
use Rattle.wf_block.specs.Spelling.{is_word, is_written, tokens_of}
use Rattle.wf_block.specs.Grammar.{is_end, word}
use Rattle.wf_block.specs.Steps.{fill, block}
use Rattle.wf_spelling.specs.Canon.{alone, end_line}

-- ---- readers

abbrev pub Reader : Type 0 → Type 0
Reader A = List Token → Option (A × List Token)

-- the tokens may be written, and reading them returns this value and leaves what follows them
pub record Reads {A : Type 0} (reader : Reader A) (tokens : List Token) (value : A) : Type 0 where
  pub written : list_all is_written tokens ≡ true
  pub read : (rest : List Token) → reader (tokens ++ rest) ≡ Some (value, rest)

-- ---- steps

-- the slots after a keyword
abbrev pub Put : Type 0 → Type 0
Put S = S → List ℕ → Reader S

-- the lines of a block after its keyword, including END
abbrev pub inside : List (List Token) → List (List Token)
inside [] = []
inside (keyword ∷ lines) = lines

-- a word that may be written, and isn't END
unfoldable pub is_keyword : List ℕ → Bool
unfolding is_end is_plain is_slash is_quote is_hash
is_keyword w = is_word w && not (is_end w)

-- keywords up to END are read, if at least as many may come as there are tokens
abbrev pub More : {S : Type 0} → Put S → S → List Token → S × List Token → Type 0
More put settings tokens r = (most : ℕ) → length tokens ≤ most → fill put most settings tokens ≡ Some r

-- END was read
abbrev pub Ended : {S : Type 0} → S → List Token → S × List Token → Type 0
Ended settings rest r = r ≡ (settings, rest)

-- the lines may be written, and take the slots from this state to the one that follows: more
-- keywords, or nothing
pub record Fills {S : Type 0} (put : Put S) (before : S) (lines : List (List Token)) (follows : List Token → S × List Token → Type 0) : Type 0 where
  pub written : list_all is_written (tokens_of lines) ≡ true
  pub steps : (rest : List Token) (r : S × List Token) → follows rest r → More put before (tokens_of lines ++ rest) r

-- a keyword with these tokens as its arguments, which are read to the value, takes the slots to the
-- next state
abbrev pub Denotes : {S A : Type 0} → Put S → S → List ℕ → Reader A → List Token → A → S → Type 0
Denotes put before w reader tokens value next = (rest : List Token) → reader (tokens ++ rest) ≡ Some (value, rest) → put before w (tokens ++ rest) ≡ Some (next, rest)

one_step : {S : Type 0} (put : Put S) (before next : S) (w : List ℕ) (tokens rest : List Token) (r : S × List Token)
    → is_end w ≡ false → put before w tokens ≡ Some (next, rest) → length rest ≤ length tokens → More put next rest r → More put before (Word w ∷ tokens) r
unfolding fill word
one_step put before next w tokens rest r other settings fewer more zero enough = absurd (omega arith)
one_step put before next w tokens rest r other settings fewer more (suc most) enough = let left = more most (omega arith) in rw (other, settings) left

-- a keyword and its arguments, on one line or more
pub keyword : {S A : Type 0} {put : Put S} {before next : S} {w : List ℕ} {arguments : List Token} {lines : List (List Token)} {reader : Reader A} {value : A}
    → is_keyword w ≡ true → Reads reader (arguments ++ tokens_of lines) value → Denotes put before w reader (arguments ++ tokens_of lines) value next → Fills put before ((Word w ∷ arguments) ∷ lines) (More put next)
unfolding is_keyword
keyword {put = put} {before = before} {next = next} {w = w} {arguments = arguments} {lines = lines} known asked settings = record {
  written = rw (and_left (is_word w) (not (is_end w)) known, asked.written) refl;
  steps = λ rest r more.
      one_step put before next w ((arguments ++ tokens_of lines) ++ rest) rest r (not_true (is_end w) (and_right (is_word w) (not (is_end w)) known)) (settings rest (asked.read rest)) (omega (arith, length-append (arguments ++ tokens_of lines) rest)) more;
}

tokens_of-append : (xs ys : List (List Token)) → tokens_of (xs ++ ys) ≡ tokens_of xs ++ tokens_of ys
tokens_of-append xs ys = flat_map-append (λ tokens. tokens) xs ys

-- lines and more lines
pub both : {S : Type 0} {put : Put S} {before : S} {xs ys : List (List Token)} {follows : List Token → S × List Token → Type 0} (between : S)
    → Fills put before xs (More put between) → Fills put between ys follows → Fills put before (xs ++ ys) follows
both {put = put} {before = before} {xs = xs} {ys = ys} between first second = record {
  written = rw (tokens_of-append xs ys, list_all-append is_written (tokens_of xs) (tokens_of ys), first.written) second.written;
  steps = λ rest r last.
      let all : tokens_of (xs ++ ys) ++ rest ≡ tokens_of xs ++ (tokens_of ys ++ rest) =
      ap (λ (ts : List Token). ts ++ rest) (tokens_of-append xs ys) ∙ append_assoc (tokens_of xs) (tokens_of ys) rest in
      rw all (first.steps (tokens_of ys ++ rest) r (second.steps rest r last));
}

-- a keyword alone on its line, the lines of its block, and more lines
pub inner : {S A : Type 0} {put : Put S} {before : S} {w : List ℕ} {more : List (List Token)} {follows : List Token → S × List Token → Type 0} {reader : Reader A} {value : A} (lines : List (List Token)) (next : S)
    → is_keyword w ≡ true → Reads reader (tokens_of lines) value → Denotes put before w reader (tokens_of lines) value next → Fills put next more follows → Fills put before (alone w ∷ lines ++ more) follows
inner {w = w} lines next known asked settings others = both next (keyword {w = w} {arguments = []} {lines = lines} known asked settings) others

-- a line, and more lines
pub line : {S A : Type 0} {put : Put S} {before : S} {w : List ℕ} {arguments : List Token} {more : List (List Token)} {follows : List Token → S × List Token → Type 0} {reader : Reader A} {value : A} (next : S)
    → is_keyword w ≡ true → Reads reader arguments value → Denotes put before w reader arguments value next → Fills put next more follows → Fills put before ((Word w ∷ arguments) ∷ more) follows
line {put = put} {before = before} {w = w} {arguments = arguments} {reader = reader} {value = value} next known asked settings others =
    let alike = append-nil arguments in
    let all : Reads reader (arguments ++ []) value = rw alike asked in
    both next (keyword {put = put} {before = before} {w = w} {arguments = arguments} {lines = []} known all (λ rest e. rw alike (settings rest (asked.read rest)))) others

pub none : {S : Type 0} {put : Put S} {settings : S} → Fills put settings [] (More put settings)
none = record { written = refl; steps = λ rest r more. more }

at_end : {S : Type 0} (put : Put S) (settings : S) (rest : List Token) → More put settings (Word (codes "END") ∷ rest) (settings, rest)
unfolding fill word is_end
at_end put settings rest zero enough = absurd (omega arith)
at_end put settings rest (suc most) enough = refl

-- the END of a block
pub ended : {S : Type 0} {put : Put S} {settings : S} → Fills put settings (end_line ∷ []) (Ended settings)
unfolding is_keyword
ended {put = put} {settings = settings} = record { written = refl; steps = λ rest r is. rw is (at_end put settings rest) }

-- the lines of an optional value
pub there : {S X : Type 0} {put : Put S} (P : X → Type 0) (of : Option X → List (List Token)) (state : Option X → S) (o : Option X)
    → of None ≡ [] → ((x : X) → P x → Fills put (state None) (of (Some x)) (More put (state (Some x)))) → IfSome o P → Fills put (state None) (of o) (More put (state o))
there P of state None empty step some = rw empty none
there P of state (Some x) empty step some = step x some

-- ---- lists

-- an element of a list, with those before it
pub record IsAt {X : Type 0} (xs before : List X) (x : X) : Type 0 where
  pub after : List X
  pub is : xs ≡ before ++ x ∷ after

pub holds_at : {X : Type 0} {xs before : List X} {x : X} (P : X → Type 0) → IsAt xs before x → All P xs → P x
holds_at {xs = xs} {before = before} {x = x} P byte_offset all =
    let here : Contains (before ++ x ∷ byte_offset.after) x = Contains-append_right before (x ∷ byte_offset.after) x (zero, omega arith, refl) in
    All-contains P (before ++ x ∷ byte_offset.after) x (All-same P (before ++ x ∷ byte_offset.after) xs (sym byte_offset.is) all) here

-- there is room for the element
pub room_at : {X : Type 0} {xs before : List X} {x : X} (most : ℕ) → IsAt xs before x → length xs ≤ most → ltb (length before) most ≡ true
room_at {before = before} {x = x} most byte_offset few = lt-ltb (length before) most (omega (arith, ap length byte_offset.is, length-append before (x ∷ byte_offset.after)))

-- the elements before it leave at least as much as it has
pub left_at : {X : Type 0} {xs before : List X} {x : X} (f : X → ℕ) (most : ℕ) → IsAt xs before x → sum_by f xs ≤ most → f x ≤ most - sum_by f before
left_at {before = before} {x = x} f most byte_offset few = omega (arith, ap (sum_by f) byte_offset.is, sum_by-append f before (x ∷ byte_offset.after), sum_by-cons f x byte_offset.after)

-- the lines of each element of a list append it to those before it
pub each : {S X : Type 0} {put : Put S} (of : X → List (List Token)) (state : List X → S) (done xs : List X)
    → ((before : List X) (x : X) → IsAt (done ++ xs) before x → Fills put (state before) (of x) (More put (state (before ++ x ∷ []))))
    → Fills put (state done) (flat_map of xs) (More put (state (done ++ xs)))
each of state done [] step = rw (append-nil done) none
each of state done (x ∷ xs) step =
    let same : (done ++ x ∷ []) ++ xs ≡ done ++ x ∷ xs = append_assoc done (x ∷ []) xs in
    rw same at (both (state (done ++ x ∷ [])) (step done x (record { after = xs; is = refl })) (each of state (done ++ x ∷ []) xs (λ before y byte_offset. step before y (rw same at byte_offset))))

-- ---- blocks

-- a block's lines and its END are read as its value
pub block_again : {S A : Type 0} {put : Put S} {before after : S} {reader : Reader A} {value : A} (lines : List (List Token))
    → Fills put before lines (Ended after) → ((rest : List Token) → block put before (tokens_of lines ++ rest) ≡ Some (after, rest) → reader (tokens_of lines ++ rest) ≡ Some (value, rest)) → Reads reader (tokens_of lines) value
block_again {after = after} lines fills denotes = record {
  written = fills.written;
  read = λ rest. denotes rest (fills.steps rest (after, rest) refl (length (tokens_of lines ++ rest)) (omega arith));
}
