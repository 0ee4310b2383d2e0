-- Spelled lines are UTF-8: their words are ASCII, and their texts and lists are UTF-8.
use Rattle.std.proofs.Common.{◌≡◌, ℕ, zero, suc, ◌<◌, true, false, cond, eqb, List, [], ◌∷◌, arith, lit<}
use Rattle.std.specs.List.{list_all, list_any}
use Rattle.std.specs.Str.{IsAscii, IsUtf8, is_utf8}
use Rattle.std.proofs.lemmas.Bool.Decides.{nat_tests}
use Rattle.std.proofs.lemmas.Str.{IsUtf8-append, IsUtf8-nil, IsUtf8-from_ascii, IsUtf8-from_is_utf8, is_utf8-from_IsUtf8}
use Rattle.wf_text.specs.Text.{is_text}
use Rattle.wf_text.specs.ValueList.{is_value_list}
use Rattle.wf_block.specs.Token.{Token, Word, Quoted, Braced, is_plain}
use Rattle.wf_block.specs.Spelling.{quote_for, spelled, line, text_of, lacks, is_written, are_written}
use Rattle.wf_text.specs.Booleans.{and_left, and_right}
use Rattle.wf_block.specs.WordTheorems.{word_is_plain}

ascii_more : (b : ℕ) (bs : List ℕ) → b < 128 → IsAscii bs → IsAscii (b ∷ bs)
ascii_more b bs lt e zero = lt
ascii_more b bs lt e (suc i) = e i

one_ascii : (b : ℕ) → b < 128 → IsUtf8 (b ∷ [])
one_ascii b lt = IsUtf8-from_ascii (b ∷ []) (ascii_more b [] lt (λ i. lit< tt))

plain_below : (b : ℕ) → is_plain b ≡ true → b < 128
unfolding is_plain
plain_below b e = grind (arith, nat_tests)

plain_is_ascii : (w : List ℕ) → list_all is_plain w ≡ true → IsAscii w
plain_is_ascii [] e = λ i. lit< tt
plain_is_ascii (b ∷ w) e = ascii_more b w (plain_below b (and_left (is_plain b) (list_all is_plain w) e)) (plain_is_ascii w (and_right (is_plain b) (list_all is_plain w) e))

pub text_is_utf8 : (t : List ℕ) → is_text t ≡ true → IsUtf8 t
unfolding is_text
text_is_utf8 t e =
    IsUtf8-from_is_utf8 t (and_right _ _ (and_left _ _ (and_left _ _ e)))

list_is_utf8 : (inside : List ℕ) → is_value_list inside ≡ true → IsUtf8 inside
unfolding is_value_list
list_is_utf8 inside e =
    IsUtf8-from_is_utf8 inside (and_right _ _ (and_left _ _ (and_left _ _ e)))

quote_below : (t : List ℕ) → quote_for t < 128
quote_below t = elim (list_any (λ b. eqb b 34) t) as (λ v. cond v 39 34 < 128) [ true ↦ lit< tt | false ↦ lit< tt ]

spelled_is_utf8 : (t : Token) → is_written t ≡ true → IsUtf8 (spelled t)
spelled_is_utf8 (Word w) e = IsUtf8-from_ascii w (plain_is_ascii w (word_is_plain w e))
spelled_is_utf8 (Quoted text) e =
    let mark = one_ascii (quote_for text) (quote_below text) in
    IsUtf8-append (quote_for text ∷ text) (quote_for text ∷ []) (IsUtf8-append (quote_for text ∷ []) text mark (text_is_utf8 text (and_left (is_text text) (lacks (quote_for text) text) e))) mark
spelled_is_utf8 (Braced inside) e =
    IsUtf8-append (123 ∷ inside) (125 ∷ []) (IsUtf8-append (123 ∷ []) inside (one_ascii 123 (lit< tt)) (list_is_utf8 inside e)) (one_ascii 125 (lit< tt))

line_is_utf8 : (ts : List Token) → list_all is_written ts ≡ true → IsUtf8 (line ts)
unfolding line
line_is_utf8 [] e = one_ascii 10 (lit< tt)
line_is_utf8 (t ∷ []) e = IsUtf8-append (spelled t) (10 ∷ []) (spelled_is_utf8 t (and_left (is_written t) true e)) (one_ascii 10 (lit< tt))
line_is_utf8 (t ∷ u ∷ ts) e =
    IsUtf8-append (spelled t) (32 ∷ line (u ∷ ts)) (spelled_is_utf8 t (and_left (is_written t) (list_all is_written (u ∷ ts)) e))
    (IsUtf8-append (32 ∷ []) (line (u ∷ ts)) (one_ascii 32 (lit< tt)) (line_is_utf8 (u ∷ ts) (and_right (is_written t) (list_all is_written (u ∷ ts)) e)))

pub lines_are_utf8 : (lines : List (List Token)) → are_written lines ≡ true → IsUtf8 (text_of lines)
lines_are_utf8 [] e = IsUtf8-nil
lines_are_utf8 (l ∷ lines) e =
    IsUtf8-append (line l) (text_of lines) (line_is_utf8 l (and_left (list_all is_written l) (are_written lines) e)) (lines_are_utf8 lines (and_right (list_all is_written l) (are_written lines) e))

pub text_of-is_utf8 : (lines : List (List Token)) → are_written lines ≡ true → is_utf8 (text_of lines) ≡ true
text_of-is_utf8 lines e = is_utf8-from_IsUtf8 (text_of lines) (lines_are_utf8 lines e)
