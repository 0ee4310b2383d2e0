-- What the automaton does with a whole word, string, list or comment, and with what follows it.
use Rattle.std.proofs.Common.{◌≡◌, ℕ, Bool, true, false, cond, ◌&&◌, List, [], ◌∷◌, ◌++◌, refl, sym, ◌∙◌, ap, append_assoc, arith, ◌<◌, take, drop, length}
use Rattle.std.specs.Prelude.{Option, Some, None, ◌==◌}
use Rattle.std.specs.List.{list_all, prefix_len}
use Rattle.std.proofs.lemmas.List.{append-nil, take-append-drop}
use Rattle.std.proofs.lemmas.Bool.{eqb-true, eq-eqb}
use Rattle.std.specs.Cmp.{first_so, second_so}
use Rattle.std.proofs.lemmas.Bool.Decides.{nat_tests}
use Rattle.std.proofs.lemmas.List.{map-append}
use Rattle.wf_block.proofs.Prefix.{front_passes, back_fails}
use Rattle.wf_text.specs.Text.{is_text}
use Rattle.wf_text.specs.ValueList.{is_value_list}
use Rattle.wf_block.specs.declared.token.Token.{Token as LexedToken}
use Rattle.wf_text.specs.Booleans.{not_true}
use Rattle.wf_block.specs.Lexeme.{begins, ends_word, goes_on, stays_in_list}
use Rattle.wf_block.specs.SpellingTheorems.{prepend_all-append, prepend_all-some}
use Rattle.wf_block.specs.Token.{Token, Word, Quoted, Braced, Between, BehindSlash, LineComment, BlockComment, BehindStar, InWord, InString, InList, Goes, is_white, is_quote, is_hash, ends_line, is_slash, is_star, is_plain, opens_list, closes_list, step_between, step_in_word, step_in_string, step_in_list, step, at_end, prepend, prepend_all, tokens_from, token_value, token_values}

-- the kinds of bytes exclude each other

hash-is-not-white : (b : ℕ) → is_hash b ≡ true → is_white b ≡ false
unfolding is_hash is_white
hash-is-not-white b hash = grind (arith, nat_tests)

quote-is-not-white : (b : ℕ) → is_quote b ≡ true → is_white b ≡ false
unfolding is_quote is_white
quote-is-not-white b quote = grind (arith, nat_tests)

quote-is-not-hash : (b : ℕ) → is_quote b ≡ true → is_hash b ≡ false
unfolding is_quote is_hash
quote-is-not-hash b quote = grind (arith, nat_tests)

plain-is-not-white : (b : ℕ) → is_plain b ≡ true → is_white b ≡ false
unfolding is_plain is_white
plain-is-not-white b plain = grind (arith, nat_tests)

plain-is-not-hash : (b : ℕ) → is_plain b ≡ true → is_hash b ≡ false
unfolding is_plain
plain-is-not-hash b plain = grind (arith, nat_tests)

plain-is-not-quote : (b : ℕ) → is_plain b ≡ true → is_quote b ≡ false
unfolding is_plain
plain-is-not-quote b plain = grind (arith, nat_tests)

brace-is-not-white : (b : ℕ) → opens_list b ≡ true → is_white b ≡ false
unfolding opens_list is_white
brace-is-not-white b brace = grind (arith, nat_tests)

brace-is-not-hash : (b : ℕ) → opens_list b ≡ true → is_hash b ≡ false
unfolding opens_list is_hash
brace-is-not-hash b brace = grind (arith, nat_tests)

brace-is-not-quote : (b : ℕ) → opens_list b ≡ true → is_quote b ≡ false
unfolding opens_list is_quote
brace-is-not-quote b brace = grind (arith, nat_tests)

brace-is-not-plain : (b : ℕ) → opens_list b ≡ true → is_plain b ≡ false
unfolding opens_list is_plain
brace-is-not-plain b brace = grind (arith, nat_tests)

slash-is-plain : (b : ℕ) → is_slash b ≡ true → is_plain b ≡ true
unfolding is_plain is_slash is_quote is_hash
slash-is-plain b slash = grind (arith, nat_tests)

-- between tokens

pub between-empty : (bs : List ℕ) → length bs ≡ 0 → tokens_from Between bs ≡ Some []
unfolding tokens_from at_end
between-empty [] none = refl
between-empty (b ∷ bs) none = absurd (omega arith)

pub between-white : (b : ℕ) (bs : List ℕ) → is_white b ≡ true → tokens_from Between (b ∷ bs) ≡ tokens_from Between bs
unfolding tokens_from step step_between
between-white b bs white = rw white

pub between-hash : (b : ℕ) (bs : List ℕ) → is_hash b ≡ true → tokens_from Between (b ∷ bs) ≡ tokens_from LineComment bs
unfolding tokens_from step step_between
between-hash b bs hash = rw (hash-is-not-white b hash, hash)

pub between-quote : (b : ℕ) (bs : List ℕ) → is_quote b ≡ true → tokens_from Between (b ∷ bs) ≡ tokens_from (InString b []) bs
unfolding tokens_from step step_between
between-quote b bs quote = rw (quote-is-not-white b quote, quote-is-not-hash b quote, quote)

between-plain : (b : ℕ) → is_plain b ≡ true → step_between b ≡ cond (is_slash b) (Goes BehindSlash) (Goes (InWord (b ∷ [])))
unfolding step_between
between-plain b plain = rw (plain-is-not-white b plain, plain-is-not-hash b plain, plain-is-not-quote b plain, plain)

pub between-comment : (b c : ℕ) (bs : List ℕ) → is_slash b ≡ true → is_star c ≡ true → tokens_from Between (b ∷ c ∷ bs) ≡ tokens_from BlockComment bs
unfolding tokens_from step
between-comment b c bs slash star = rw (between-plain b (slash-is-plain b slash), slash, star)

-- a `/` that isn't followed by `*` is a word's first byte
behind-slash : (b : ℕ) (bs : List ℕ) → is_slash b ≡ true → begins is_star bs ≡ false → tokens_from BehindSlash bs ≡ tokens_from (InWord (b ∷ [])) bs
unfolding tokens_from step at_end is_slash
behind-slash b [] slash star = rw (eqb-true b 47 slash)
behind-slash b (c ∷ bs) slash star = rw (star, eqb-true b 47 slash)

in-word : (w : List ℕ) (b : ℕ) (bs : List ℕ) → is_plain b ≡ true → tokens_from (InWord w) (b ∷ bs) ≡ tokens_from (InWord (w ++ b ∷ [])) bs
unfolding tokens_from step step_in_word
in-word w b bs plain = rw plain

-- a word begins, by whether its first byte is a `/`
begins-word : (slash : Bool) (b : ℕ) (bs : List ℕ) → is_slash b ≡ slash → is_plain b ≡ true → (slash && begins is_star bs) ≡ false → tokens_from Between (b ∷ bs) ≡ tokens_from (InWord (b ∷ [])) bs
unfolding tokens_from step
begins-word true b bs slash plain other = rw (between-plain b plain, slash) (behind-slash b bs slash other)
begins-word false b bs slash plain other = rw (between-plain b plain, slash)

pub between-word : (b : ℕ) (bs : List ℕ) → is_plain b ≡ true → (is_slash b && begins is_star bs) ≡ false → tokens_from Between (b ∷ bs) ≡ tokens_from (InWord []) (b ∷ bs)
between-word b bs plain other = begins-word (is_slash b) b bs refl plain other ∙ sym (in-word [] b bs plain)

not-slash : (b : ℕ) → is_plain b ≡ false → is_slash b ≡ false
not-slash b plain = grind (arith, slash-is-plain b)

pub between-list : (b : ℕ) (bs : List ℕ) → opens_list b ≡ true → tokens_from Between (b ∷ bs) ≡ tokens_from (InList []) bs
unfolding tokens_from step step_between
between-list b bs brace =
    let plain = brace-is-not-plain b brace in
    rw (brace-is-not-white b brace, brace-is-not-hash b brace, brace-is-not-quote b brace, not-slash b plain, plain, brace)

pub between-other : (b : ℕ) (bs : List ℕ) → is_white b ≡ false → is_hash b ≡ false → is_quote b ≡ false → is_plain b ≡ false → opens_list b ≡ false → tokens_from Between (b ∷ bs) ≡ None
unfolding tokens_from step step_between
between-other b bs white hash quote plain brace = rw (white, hash, quote, not-slash b plain, plain, brace)

-- in a word

pub word-run : (w front rest : List ℕ) → list_all is_plain front ≡ true → tokens_from (InWord w) (front ++ rest) ≡ tokens_from (InWord (w ++ front)) rest
word-run w [] rest all = rw append-nil
word-run w (b ∷ front) rest all =
    in-word w b (front ++ rest) (first_so _ _ all) ∙
    rw (← append_assoc w (b ∷ []) front) (word-run (w ++ b ∷ []) front rest (second_so _ _ all))

pub word-closes : (w rest : List ℕ) → ends_word rest ≡ true → tokens_from (InWord w) rest ≡ prepend (Word w) (tokens_from Between rest)
unfolding tokens_from step step_in_word step_between at_end ends_word
word-closes w [] ends = refl
word-closes w (b ∷ rest) ends = grind (arith, plain-is-not-white b, plain-is-not-hash b, plain-is-not-quote b, quote-is-not-hash b, quote-is-not-white b, hash-is-not-white b)

pub word-refused : (w rest : List ℕ) → begins is_plain rest ≡ false → ends_word rest ≡ false → tokens_from (InWord w) rest ≡ None
unfolding tokens_from step step_in_word ends_word
word-refused w [] stops ends = absurd (cc)
word-refused w (b ∷ rest) stops ends = grind arith

-- a word's bytes end at the first byte that isn't one of a word
pub word-cut : (bs : List ℕ) → tokens_from (InWord []) bs ≡ tokens_from (InWord (take (prefix_len is_plain bs) bs)) (drop (prefix_len is_plain bs) bs)
word-cut bs =
    let n = prefix_len is_plain bs in
    ap (tokens_from (InWord [])) (sym (take-append-drop n bs)) ∙ word-run [] (take n bs) (drop n bs) (front_passes is_plain bs)

pub word-stops : (bs : List ℕ) → begins is_plain (drop (prefix_len is_plain bs) bs) ≡ false
word-stops bs = back_fails is_plain bs

-- a word has at least one byte
pub word-shortens : (bs : List ℕ) → begins is_plain bs ≡ true → 0 < prefix_len is_plain bs
word-shortens [] front = absurd (cc)
word-shortens (b ∷ bs) front = rw front (omega arith)

-- in a string

in-string : (q b : ℕ) (s bs : List ℕ) → (b == q) ≡ false → tokens_from (InString q s) (b ∷ bs) ≡ tokens_from (InString q (s ++ b ∷ [])) bs
unfolding tokens_from step step_in_string
in-string q b s bs other = rw other

other-byte : (q b : ℕ) → goes_on q b ≡ true → (b == q) ≡ false
other-byte q b goes = grind arith

pub string-run : (q : ℕ) (s front rest : List ℕ) → list_all (goes_on q) front ≡ true → tokens_from (InString q s) (front ++ rest) ≡ tokens_from (InString q (s ++ front)) rest
string-run q s [] rest all = rw append-nil
string-run q s (b ∷ front) rest all =
    in-string q b s (front ++ rest) (other-byte q b (first_so _ _ all)) ∙
    rw (← append_assoc s (b ∷ []) front) (string-run q (s ++ b ∷ []) front rest (second_so _ _ all))

pub string-closes : (q : ℕ) (s rest : List ℕ) → is_text s ≡ true → tokens_from (InString q s) (q ∷ rest) ≡ prepend (Quoted s) (tokens_from Between rest)
unfolding tokens_from step step_in_string
string-closes q s rest may = rw (eq-eqb q q refl, may)

pub string-refused : (q : ℕ) (s rest : List ℕ) → is_text s ≡ false → tokens_from (InString q s) (q ∷ rest) ≡ None
unfolding tokens_from step step_in_string
string-refused q s rest may = rw (eq-eqb q q refl, may)

pub string-open : (q : ℕ) (s : List ℕ) → tokens_from (InString q s) [] ≡ None
unfolding tokens_from at_end
string-open q s = refl

-- a string's bytes end at its quote
pub string-cut : (q : ℕ) (bs : List ℕ) → tokens_from (InString q []) bs ≡ tokens_from (InString q (take (prefix_len (goes_on q) bs) bs)) (drop (prefix_len (goes_on q) bs) bs)
string-cut q bs =
    let n = prefix_len (goes_on q) bs in
    ap (tokens_from (InString q [])) (sym (take-append-drop n bs)) ∙ string-run q [] (take n bs) (drop n bs) (front_passes (goes_on q) bs)

pub string-stops : (q : ℕ) (bs : List ℕ) → begins (goes_on q) (drop (prefix_len (goes_on q) bs) bs) ≡ false
string-stops q bs = back_fails (goes_on q) bs

-- the byte that ends a string's bytes is its quote
quote-stands : (q b : ℕ) (bs : List ℕ) → begins (goes_on q) (b ∷ bs) ≡ false → b ≡ q
quote-stands q b bs stops = grind (arith, nat_tests)

-- a string whose bytes end before `rest`, by what they are
pub string-closes-at : (q : ℕ) (s rest : List ℕ) (b : ℕ) (after : List ℕ) → rest ≡ b ∷ after → begins (goes_on q) rest ≡ false → is_text s ≡ true → tokens_from (InString q s) rest ≡ prepend (Quoted s) (tokens_from Between after)
string-closes-at q s rest b after e stops may =
    rw e (rw (quote-stands q b after (rw e at stops)) (string-closes q s after may))

pub string-refused-at : (q : ℕ) (s rest : List ℕ) → begins (goes_on q) rest ≡ false → is_text s ≡ false → tokens_from (InString q s) rest ≡ None
string-refused-at q s [] stops may = string-open q s
string-refused-at q s (b ∷ rest) stops may = rw (quote-stands q b rest stops) (string-refused q s rest may)

-- in a list

in-list : (b : ℕ) (s bs : List ℕ) → closes_list b ≡ false → tokens_from (InList s) (b ∷ bs) ≡ tokens_from (InList (s ++ b ∷ [])) bs
unfolding tokens_from step step_in_list
in-list b s bs other = rw other

pub list-run : (s front rest : List ℕ) → list_all stays_in_list front ≡ true → tokens_from (InList s) (front ++ rest) ≡ tokens_from (InList (s ++ front)) rest
list-run s [] rest all = rw append-nil
list-run s (b ∷ front) rest all =
    in-list b s (front ++ rest) (not_true (closes_list b) (first_so _ _ all)) ∙
    rw (← append_assoc s (b ∷ []) front) (list-run (s ++ b ∷ []) front rest (second_so _ _ all))

-- a list's bytes end at its brace
pub list-cut : (bs : List ℕ) → tokens_from (InList []) bs ≡ tokens_from (InList (take (prefix_len stays_in_list bs) bs)) (drop (prefix_len stays_in_list bs) bs)
list-cut bs =
    let n = prefix_len stays_in_list bs in
    ap (tokens_from (InList [])) (sym (take-append-drop n bs)) ∙ list-run [] (take n bs) (drop n bs) (front_passes stays_in_list bs)

pub list-stops : (bs : List ℕ) → begins stays_in_list (drop (prefix_len stays_in_list bs) bs) ≡ false
list-stops bs = back_fails stays_in_list bs

-- the byte that ends a list's bytes is its brace
brace-stands : (b : ℕ) (bs : List ℕ) → begins stays_in_list (b ∷ bs) ≡ false → closes_list b ≡ true
brace-stands b bs stops = grind arith

-- a list whose bytes end before `rest`, by what they are
pub list-closes-at : (s rest : List ℕ) (b : ℕ) (after : List ℕ) → rest ≡ b ∷ after → begins stays_in_list rest ≡ false → is_value_list s ≡ true → tokens_from (InList s) rest ≡ prepend (Braced s) (tokens_from Between after)
unfolding tokens_from step step_in_list
list-closes-at s rest b after e stops may = rw e (rw (brace-stands b after (rw e at stops), may))

pub list-refused-at : (s rest : List ℕ) → begins stays_in_list rest ≡ false → is_value_list s ≡ false → tokens_from (InList s) rest ≡ None
unfolding tokens_from step step_in_list at_end
list-refused-at s [] stops may = refl
list-refused-at s (b ∷ rest) stops may = rw (brace-stands b rest stops, may)

pub list-open : (s : List ℕ) → tokens_from (InList s) [] ≡ None
unfolding tokens_from at_end
list-open s = refl

-- in a comment

pub line-skips : (b : ℕ) (bs : List ℕ) → ends_line b ≡ false → tokens_from LineComment (b ∷ bs) ≡ tokens_from LineComment bs
unfolding tokens_from step
line-skips b bs other = rw other

pub line-ends : (b : ℕ) (bs : List ℕ) → ends_line b ≡ true → tokens_from LineComment (b ∷ bs) ≡ tokens_from Between bs
unfolding tokens_from step
line-ends b bs ends = rw ends

pub line-at-end : (bs : List ℕ) → length bs ≡ 0 → tokens_from LineComment bs ≡ tokens_from Between bs
unfolding tokens_from at_end
line-at-end [] none = refl
line-at-end (b ∷ bs) none = absurd (omega arith)

pub block-closes : (b c : ℕ) (bs : List ℕ) → is_star b ≡ true → is_slash c ≡ true → tokens_from BlockComment (b ∷ c ∷ bs) ≡ tokens_from Between bs
unfolding tokens_from step
block-closes b c bs star slash = rw (star, slash)

-- a `*` that isn't followed by `/` is like any other byte of the comment
behind-star : (bs : List ℕ) → begins is_slash bs ≡ false → tokens_from BehindStar bs ≡ tokens_from BlockComment bs
unfolding tokens_from step at_end
behind-star [] other = refl
behind-star (b ∷ bs) other = rw other

block-skips-by : (star : Bool) (b : ℕ) (bs : List ℕ) → is_star b ≡ star → (star && begins is_slash bs) ≡ false → tokens_from BlockComment (b ∷ bs) ≡ tokens_from BlockComment bs
unfolding tokens_from step
block-skips-by true b bs star other = rw star (behind-star bs other)
block-skips-by false b bs star other = rw star

pub block-skips : (b : ℕ) (bs : List ℕ) → (is_star b && begins is_slash bs) ≡ false → tokens_from BlockComment (b ∷ bs) ≡ tokens_from BlockComment bs
block-skips b bs other = block-skips-by (is_star b) b bs refl other

pub block-open : (bs : List ℕ) → length bs ≡ 0 → tokens_from BlockComment bs ≡ None
unfolding tokens_from at_end
block-open [] none = refl
block-open (b ∷ bs) none = absurd (omega arith)

-- several tokens

pub prepend_all-none : (xs : List Token) → prepend_all xs None ≡ None
prepend_all-none [] = refl
prepend_all-none (x ∷ xs) = rw (prepend_all-none xs)

pub prepend_all-push : (xs : List LexedToken) (x : LexedToken) (o : Option (List Token)) → prepend_all (token_values (xs ++ x ∷ [])) o ≡ prepend_all (token_values xs) (prepend (token_value x) o)
prepend_all-push xs x o = rw (map-append token_value xs (x ∷ [])) (prepend_all-append (token_values xs) (token_value x ∷ []) o)

pub prepend_all-end : (xs : List Token) → prepend_all xs (Some []) ≡ Some xs
prepend_all-end xs = prepend_all-some xs [] ∙ ap (λ (ts : List Token). Some ts) (append-nil xs)

-- lemmas for the lexer's functions

pub empty : (bs : List ℕ) → length bs ≡ 0 → bs ≡ []
empty [] none = refl
empty (b ∷ bs) none = absurd (omega arith)

pub ruleset word_steps = (word-cut, word-stops, word-shortens, word-closes, word-refused)

pub ruleset string_steps = (string-cut, string-stops, string-closes-at, string-refused-at, string-open)

pub ruleset list_steps = (list-cut, list-stops, list-closes-at, list-refused-at, list-open)

pub ruleset line_steps = (line-skips, line-ends, line-at-end)

pub ruleset block_steps = (block-closes, block-skips, block-open)

pub ruleset comment_steps = (between-comment, empty)

pub ruleset between_steps = (between-white, between-hash, between-quote, between-word, between-list, between-other, between-empty)

pub ruleset token_list = (prepend_all-push, prepend_all-end, prepend_all-none)
