-- The tokens of spelled lines are the tokens that were spelled, whatever follows the lines.
use Rattle.std.proofs.Common.{◌≡◌, ℕ, true, false, not, ◌&&◌, cond, eqb, List, [], ◌∷◌, ◌++◌, Option, Some, refl, sym, ap, ◌∙◌, subst, append_assoc, arith}
use Rattle.std.specs.List.{flat_map, list_any, list_all}
use Rattle.std.proofs.lemmas.Bool.Decides.{nat_tests}
use Rattle.std.proofs.lemmas.List.{append-nil}
use Rattle.wf_text.specs.Text.{is_text}
use Rattle.wf_text.specs.ValueList.{is_value_list, is_list_byte}
use Rattle.wf_block.specs.Token.{Token, Word, Quoted, Braced, Between, InWord, InString, InList, is_white, is_quote, is_hash, is_slash, is_plain, opens_list, closes_list, step, step_between, step_in_word, step_in_string, step_in_list, at_end, prepend, prepend_all, tokens_from}
use Rattle.wf_text.specs.Booleans.{and_left, and_right, not_true}
use Rattle.wf_block.specs.Spelling.{quote_for, spelled, line, is_word, lacks, is_written, are_written, tokens_of}

-- a byte that ends a word: the space or the LF after each token
pub record IsGap (b : ℕ) : Type 0 where
  pub plain : is_plain b ≡ false
  pub white : is_white b ≡ true

pub space_gap : IsGap 32
unfolding is_plain is_white
space_gap = record { plain = refl; white = refl }

pub line_gap : IsGap 10
unfolding is_plain is_white
line_gap = record { plain = refl; white = refl }

-- a byte of a word doesn't begin anything else
plain_not_white : (b : ℕ) → is_plain b ≡ true → is_white b ≡ false
unfolding is_plain is_white
plain_not_white b e = grind (arith, nat_tests)

plain_not_hash : (b : ℕ) → is_plain b ≡ true → is_hash b ≡ false
unfolding is_plain is_hash
plain_not_hash b e = grind (arith, nat_tests)

plain_not_quote : (b : ℕ) → is_plain b ≡ true → is_quote b ≡ false
unfolding is_plain is_quote is_hash
plain_not_quote b e = grind (arith, nat_tests)

skip_gap : (b : ℕ) (rest : List ℕ) → IsGap b → tokens_from Between (b ∷ rest) ≡ tokens_from Between rest
unfolding tokens_from step step_between
skip_gap b rest g = rw g.white refl

word_ends : (w : List ℕ) (b : ℕ) (rest : List ℕ) → IsGap b → tokens_from (InWord w) (b ∷ rest) ≡ prepend (Word w) (tokens_from Between rest)
unfolding tokens_from step step_in_word
word_ends w b rest g = rw (g.plain, g.white) refl

word_goes_on : (w bs : List ℕ) (b : ℕ) (rest : List ℕ) → list_all is_plain bs ≡ true → IsGap b → tokens_from (InWord w) (bs ++ b ∷ rest) ≡ prepend (Word (w ++ bs)) (tokens_from Between rest)
unfolding tokens_from step step_in_word
word_goes_on w [] b rest e g = rw (append-nil w) (word_ends w b rest g)
word_goes_on w (x ∷ bs) b rest e g =
    let one : tokens_from (InWord w) ((x ∷ bs) ++ b ∷ rest) ≡ tokens_from (InWord (w ++ x ∷ [])) (bs ++ b ∷ rest) = rw (and_left (is_plain x) (list_all is_plain bs) e) refl in
    one ∙ word_goes_on (w ++ x ∷ []) bs b rest (and_right (is_plain x) (list_all is_plain bs) e) g ∙ ap (λ (v : List ℕ). prepend (Word v) (tokens_from Between rest)) (append_assoc w (x ∷ []) bs)

pub lex_word : (w : List ℕ) (b : ℕ) (rest : List ℕ) → is_word w ≡ true → IsGap b → tokens_from Between (w ++ b ∷ rest) ≡ prepend (Word w) (tokens_from Between rest)
unfolding tokens_from step step_between
lex_word [] b rest e g = absurd cc
lex_word (x ∷ w) b rest e g =
    let front : (not (is_slash x) && is_plain x) ≡ true = and_left (not (is_slash x) && is_plain x) (list_all is_plain w) e in
    let slash : is_slash x ≡ false = not_true (is_slash x) (and_left (not (is_slash x)) (is_plain x) front) in
    let plain : is_plain x ≡ true = and_right (not (is_slash x)) (is_plain x) front in
    let one : tokens_from Between ((x ∷ w) ++ b ∷ rest) ≡ tokens_from (InWord (x ∷ [])) (w ++ b ∷ rest) =
    rw (plain_not_white x plain, plain_not_hash x plain, plain_not_quote x plain, slash, plain) refl in
    one ∙ word_goes_on (x ∷ []) w b rest (and_right (not (is_slash x) && is_plain x) (list_all is_plain w) e) g

-- ---- texts in quotes

string_goes_on : (q : ℕ) (s text rest : List ℕ) → lacks q text ≡ true → is_text (s ++ text) ≡ true → tokens_from (InString q s) (text ++ q ∷ rest) ≡ prepend (Quoted (s ++ text)) (tokens_from Between rest)
unfolding tokens_from step step_in_string
string_goes_on q s [] rest e ok =
    let same : eqb q q ≡ true = grind (arith, nat_tests) in
    let fits : is_text s ≡ true = subst (λ (v : List ℕ). is_text v ≡ true) (append-nil s) ok in
    rw (append-nil s, same, fits) refl
string_goes_on q s (x ∷ text) rest e ok =
    let other : eqb x q ≡ false = not_true (eqb x q) (and_left (not (eqb x q)) (lacks q text) e) in
    let one : tokens_from (InString q s) ((x ∷ text) ++ q ∷ rest) ≡ tokens_from (InString q (s ++ x ∷ [])) (text ++ q ∷ rest) = rw other refl in
    let regrouped : (s ++ x ∷ []) ++ text ≡ s ++ x ∷ text = append_assoc s (x ∷ []) text in
    one ∙ string_goes_on q (s ++ x ∷ []) text rest (and_right (not (eqb x q)) (lacks q text) e) (rw regrouped ok) ∙ ap (λ (v : List ℕ). prepend (Quoted v) (tokens_from Between rest)) regrouped

quote_not_white : (q : ℕ) → is_quote q ≡ true → is_white q ≡ false
unfolding is_quote is_white
quote_not_white q e = grind (arith, nat_tests)

quote_not_hash : (q : ℕ) → is_quote q ≡ true → is_hash q ≡ false
unfolding is_quote is_hash
quote_not_hash q e = grind (arith, nat_tests)

lex_string : (q : ℕ) (text rest : List ℕ) → is_quote q ≡ true → lacks q text ≡ true → is_text text ≡ true → tokens_from Between (q ∷ text ++ q ∷ rest) ≡ prepend (Quoted text) (tokens_from Between rest)
unfolding tokens_from step step_between
lex_string q text rest mark e ok =
    let one : tokens_from Between (q ∷ text ++ q ∷ rest) ≡ tokens_from (InString q []) (text ++ q ∷ rest) =
    rw (quote_not_white q mark, quote_not_hash q mark, mark) refl in
    one ∙ string_goes_on q [] text rest e ok

quote_for-is_quote : (text : List ℕ) → is_quote (quote_for text) ≡ true
unfolding is_quote
quote_for-is_quote text =
    elim (list_any (λ b. eqb b 34) text) as (λ v. is_quote (cond v 39 34) ≡ true) [ true ↦ refl | false ↦ refl ]

-- ---- lists in braces

list_goes_on : (s inside rest : List ℕ) → list_all is_list_byte inside ≡ true → is_value_list (s ++ inside) ≡ true → tokens_from (InList s) (inside ++ 125 ∷ rest) ≡ prepend (Braced (s ++ inside)) (tokens_from Between rest)
unfolding tokens_from step step_in_list closes_list
list_goes_on s [] rest e ok =
    let fits : is_value_list s ≡ true = subst (λ (v : List ℕ). is_value_list v ≡ true) (append-nil s) ok in
    rw (append-nil s, fits) refl
list_goes_on s (x ∷ inside) rest e ok =
    let may : is_list_byte x ≡ true = and_left (is_list_byte x) (list_all is_list_byte inside) e in
    let other : eqb x 125 ≡ false = grind (arith, nat_tests) in
    let one : tokens_from (InList s) ((x ∷ inside) ++ 125 ∷ rest) ≡ tokens_from (InList (s ++ x ∷ [])) (inside ++ 125 ∷ rest) = rw other refl in
    let regrouped : (s ++ x ∷ []) ++ inside ≡ s ++ x ∷ inside = append_assoc s (x ∷ []) inside in
    one ∙ list_goes_on (s ++ x ∷ []) inside rest (and_right (is_list_byte x) (list_all is_list_byte inside) e) (rw regrouped ok) ∙ ap (λ (v : List ℕ). prepend (Braced v) (tokens_from Between rest)) regrouped

list_bytes : (inside : List ℕ) → is_value_list inside ≡ true → list_all is_list_byte inside ≡ true
unfolding is_value_list
list_bytes inside e = and_right _ _ e

lex_list : (inside rest : List ℕ) → is_value_list inside ≡ true → tokens_from Between (123 ∷ inside ++ 125 ∷ rest) ≡ prepend (Braced inside) (tokens_from Between rest)
unfolding tokens_from step step_between is_white is_hash is_quote is_slash is_plain opens_list
lex_list inside rest ok = list_goes_on [] inside rest (list_bytes inside ok) ok

-- ---- lines

pub lex_token : (t : Token) (b : ℕ) (rest : List ℕ) → is_written t ≡ true → IsGap b → tokens_from Between (spelled t ++ b ∷ rest) ≡ prepend t (tokens_from Between rest)
lex_token (Word w) b rest e g = lex_word w b rest e g
lex_token (Quoted text) b rest e g =
    let q = quote_for text in
    let regrouped : (q ∷ text ++ q ∷ []) ++ b ∷ rest ≡ q ∷ text ++ q ∷ b ∷ rest = append_assoc (q ∷ text) (q ∷ []) (b ∷ rest) in
    ap (tokens_from Between) regrouped
    ∙ lex_string q text (b ∷ rest) (quote_for-is_quote text) (and_right (is_text text) (lacks q text) e) (and_left (is_text text) (lacks q text) e)
    ∙ ap (prepend (Quoted text)) (skip_gap b rest g)
lex_token (Braced inside) b rest e g =
    let regrouped : (123 ∷ inside ++ 125 ∷ []) ++ b ∷ rest ≡ 123 ∷ inside ++ 125 ∷ b ∷ rest = append_assoc (123 ∷ inside) (125 ∷ []) (b ∷ rest) in
    ap (tokens_from Between) regrouped ∙ lex_list inside (b ∷ rest) e ∙ ap (prepend (Braced inside)) (skip_gap b rest g)

pub prepend_all-append : (ts us : List Token) (rest : Option (List Token)) → prepend_all (ts ++ us) rest ≡ prepend_all ts (prepend_all us rest)
prepend_all-append [] us rest = refl
prepend_all-append (t ∷ ts) us rest = ap (prepend t) (prepend_all-append ts us rest)

pub prepend_all-some : (ts us : List Token) → prepend_all ts (Some us) ≡ Some (ts ++ us)
prepend_all-some [] us = refl
prepend_all-some (t ∷ ts) us = ap (prepend t) (prepend_all-some ts us)

pub lex_line : (ts : List Token) (rest : List ℕ) → list_all is_written ts ≡ true → tokens_from Between (line ts ++ rest) ≡ prepend_all ts (tokens_from Between rest)
unfolding line
lex_line [] rest e = skip_gap 10 rest line_gap
lex_line (t ∷ []) rest e =
    ap (tokens_from Between) (append_assoc (spelled t) (10 ∷ []) rest) ∙ lex_token t 10 rest (and_left (is_written t) true e) line_gap
lex_line (t ∷ u ∷ ts) rest e =
    ap (tokens_from Between) (append_assoc (spelled t) (32 ∷ line (u ∷ ts)) rest)
    ∙ lex_token t 32 (line (u ∷ ts) ++ rest) (and_left (is_written t) (list_all is_written (u ∷ ts)) e) space_gap
    ∙ ap (prepend t) (lex_line (u ∷ ts) rest (and_right (is_written t) (list_all is_written (u ∷ ts)) e))

pub lex_lines : (lines : List (List Token)) (rest : List ℕ) → are_written lines ≡ true → tokens_from Between (flat_map line lines ++ rest) ≡ prepend_all (tokens_of lines) (tokens_from Between rest)
lex_lines [] rest e = refl
lex_lines (l ∷ lines) rest e =
    ap (tokens_from Between) (append_assoc (line l) (flat_map line lines) rest)
    ∙ lex_line l (flat_map line lines ++ rest) (and_left (list_all is_written l) (are_written lines) e)
    ∙ ap (prepend_all l) (lex_lines lines rest (and_right (list_all is_written l) (are_written lines) e))
    ∙ sym (prepend_all-append l (tokens_of lines) (tokens_from Between rest))

-- the tokens of a spelled text
pub lex_text : (lines : List (List Token)) → are_written lines ≡ true → tokens_from Between (flat_map line lines) ≡ Some (tokens_of lines)
unfolding tokens_from at_end
lex_text lines e =
    ap (tokens_from Between) (sym (append-nil (flat_map line lines))) ∙ lex_lines lines [] e ∙ prepend_all-some (tokens_of lines) [] ∙ ap (λ (ts : List Token). Some ts) (append-nil (tokens_of lines))
