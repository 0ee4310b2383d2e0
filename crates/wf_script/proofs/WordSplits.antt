-- How a line is split into its words.
use Rattle.std.proofs.Common.{◌≡◌, ◌∙◌, ℕ, ◌+◌, suc, Bool, true, false, cond, List, [], ◌∷◌, length, refl, sym, ap, arith, take, drop, subst, not}
use Rattle.std.specs.Prelude.{◌==◌, filter}
use Rattle.std.specs.List.{prefix_len}
use Rattle.std.proofs.lemmas.Grind.{common_steps}
use Rattle.wf_script.specs.Lines.{before}
use Rattle.wf_script.specs.Words.{pieces, words, is_word, is_space, is_in_word}

-- spaces before a word
skip_of : (t : Bool) (byte n : ℕ) (rest : List ℕ) → (byte == 32) ≡ t → words (drop n rest) ≡ words rest → words (drop (cond t (1 + n) 0) (byte ∷ rest)) ≡ words (byte ∷ rest)
unfolding words pieces
skip_of true byte n rest is same =
    let one : 1 + n ≡ suc n = omega arith in
    subst (λ k. words (drop k (byte ∷ rest)) ≡ words (byte ∷ rest)) (sym one) (same ∙ sym (rw is))
skip_of false byte n rest is same = refl

pub spaces_skipped : (line : List ℕ) → words (drop (prefix_len is_space line) line) ≡ words line
spaces_skipped [] = refl
spaces_skipped (byte ∷ rest) = skip_of (byte == 32) byte (prefix_len is_space rest) rest refl (spaces_skipped rest)

-- the first piece ends at a space, and what follows has the other words
record First (line : List ℕ) (n : ℕ) : Type 0 where
  others : List (List ℕ)
  parts : pieces line ≡ take n line ∷ others
  words_of : filter is_word others ≡ words (drop n line)

first_of : (t : Bool) (byte n : ℕ) (rest : List ℕ) → (byte == 32) ≡ t → First rest n → First (byte ∷ rest) (cond (not t) (1 + n) 0)
unfolding words pieces
first_of true byte n rest is first = record { others = pieces rest; parts = rw is; words_of = sym (rw is) }
first_of false byte n rest is first =
    let one : suc n ≡ 1 + n = omega arith in
    subst (λ k. First (byte ∷ rest) k) one (record { others = first.others; parts = rw is (ap (before byte) first.parts); words_of = first.words_of })

first : (line : List ℕ) → First line (prefix_len is_in_word line)
unfolding words pieces
first [] = record { others = []; parts = refl; words_of = refl }
first (byte ∷ rest) = first_of (byte == 32) byte (prefix_len is_in_word rest) rest refl (first rest)

filtered : (piece : List ℕ) (others : List (List ℕ)) → (length piece == 0) ≡ false → filter is_word (piece ∷ others) ≡ piece ∷ filter is_word others
filtered [] others some = absurd (cc)
filtered (byte ∷ rest) others some = refl

-- a word, and the words after it
pub word_parted : (line : List ℕ) → (length (take (prefix_len is_in_word line) line) == 0) ≡ false → words line ≡ take (prefix_len is_in_word line) line ∷ words (drop (prefix_len is_in_word line) line)
unfolding words
word_parted line some =
    let one = first line in
    ap (filter is_word) one.parts ∙ filtered (take (prefix_len is_in_word line) line) one.others some ∙ ap (λ ws. take (prefix_len is_in_word line) line ∷ ws) one.words_of

-- no word is left where a line has none after its leading spaces
none_from : (t : Bool) (n : ℕ) (byte : ℕ) (rest : List ℕ) → t ≡ true → (length (take (cond t (1 + n) 0) (byte ∷ rest)) == 0) ≡ true → ⊥
none_from true n byte rest is none =
    let one : 1 + n ≡ suc n = omega arith in
    let some : length (take (suc n) (byte ∷ rest)) == 0 ≡ true = subst (λ k. (length (take k (byte ∷ rest)) == 0) ≡ true) one none in
    absurd (grind (arith, common_steps))
none_from false n byte rest is none = absurd (cc)

none_of : (t : Bool) (byte n : ℕ) (rest : List ℕ) → (byte == 32) ≡ t → ((length (take (prefix_len is_in_word (drop n rest)) (drop n rest)) == 0) ≡ true → drop n rest ≡ [])
    → (length (take (prefix_len is_in_word (drop (cond t (1 + n) 0) (byte ∷ rest))) (drop (cond t (1 + n) 0) (byte ∷ rest))) == 0) ≡ true → drop (cond t (1 + n) 0) (byte ∷ rest) ≡ []
none_of true byte n rest is more =
    let one : suc n ≡ 1 + n = omega arith in
    subst (λ k. (length (take (prefix_len is_in_word (drop k (byte ∷ rest))) (drop k (byte ∷ rest))) == 0) ≡ true → drop k (byte ∷ rest) ≡ []) one more
none_of false byte n rest is more = λ none. absurd (none_from (is_in_word byte) (prefix_len is_in_word rest) byte rest (ap not is) none)

none_behind : (line : List ℕ) → (length (take (prefix_len is_in_word (drop (prefix_len is_space line) line)) (drop (prefix_len is_space line) line)) == 0) ≡ true
    → drop (prefix_len is_space line) line ≡ []
none_behind [] = λ none. refl
none_behind (byte ∷ rest) = none_of (byte == 32) byte (prefix_len is_space rest) rest refl (none_behind rest)

-- How the next word is taken: spaces are skipped, and a word of some length is cut off.
pub record Taken (line behind word rest : List ℕ) : Type 0 where
  pub skipped : behind ≡ drop (prefix_len is_space line) line
  pub front : word ≡ take (prefix_len is_in_word behind) behind
  pub back : rest ≡ drop (prefix_len is_in_word behind) behind

pub no_word : (line behind word rest : List ℕ) → Taken line behind word rest → (length word == 0) ≡ true → (words line ≡ []) × (words rest ≡ [])
unfolding words pieces
no_word line behind word rest taken none =
    let empty : behind ≡ [] = taken.skipped ∙ none_behind line (subst (λ b. (length (take (prefix_len is_in_word b) b) == 0) ≡ true) taken.skipped (subst (λ w. (length w == 0) ≡ true) taken.front none)) in
    let rest_empty : rest ≡ [] = taken.back ∙ ap (λ b. drop (prefix_len is_in_word b) b) empty in
    (sym (spaces_skipped line) ∙ ap words (sym taken.skipped ∙ empty), ap words rest_empty)

pub next_word : (line behind word rest : List ℕ) → Taken line behind word rest → (length word == 0) ≡ false → words line ≡ word ∷ words rest
next_word line behind word rest taken some =
    sym (spaces_skipped line) ∙ ap words (sym taken.skipped)
    ∙ word_parted behind (subst (λ w. (length w == 0) ≡ false) taken.front some)
    ∙ ap (λ w. w ∷ words (drop (prefix_len is_in_word behind) behind)) (sym taken.front)
    ∙ ap (λ r. word ∷ words r) (sym taken.back)
