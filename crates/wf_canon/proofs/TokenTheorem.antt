-- What is written for a text, a list, a number, a colour or a choice is read as that value,
-- whatever follows.
use Rattle.std.proofs.Common.{◌≡◌, ℕ, ◌*◌, ◌/◌, ◌%◌, ◌≤◌, Bool, true, false, not, ◌&&◌, ◌||◌, cond, eqb, leb, List, [], ◌∷◌, Some, refl, arith}
use Rattle.std.specs.Prelude.{ℤ, pos}
use Rattle.std.specs.Fmt.{decimal}
use Rattle.std.specs.List.{list_any}
use Rattle.std.proofs.lemmas.Bool.Decides.{nat_tests}
use Rattle.std.proofs.lemmas.List.{append-nil}
use Rattle.wf_def.specs.Limits.{IsColor}
use Rattle.wf_def.specs.Number.{IsMicro}
use Rattle.wf_def.specs.Text.{is_text, has_both_quotes}
use Rattle.wf_def.specs.ValueList.{is_value_list}
use Rattle.wf_def.specs.Number.{whole_between}
use Rattle.wf_def.specs.declared.color.Color.{Color}
use Rattle.wf_text.specs.Booleans.{and_left, and_right, not_true}
use Rattle.wf_text.specs.NumberText.{fraction_text, magnitude_text, number_text}
use Rattle.wf_text.specs.NumberTextTheorems as numbers
use Rattle.wf_block.specs.Token.{Word, Quoted, Braced}
use Rattle.wf_block.specs.Spelling.{is_word, lacks, is_written}
use Rattle.wf_block.specs.WordTheorems.{decimal_is_word}
use Rattle.wf_block.specs.Grammar.{is_end, argument, text, value_list, one_of, choice, number, whole}
use Rattle.wf_mapfile.specs.Color.{color, rgb_color, hash_digits}
use Rattle.wf_spelling.specs.Canon.{number_word, whole_word}
use Rattle.wf_canon.proofs.NumberWord.{number_word_is}
use Rattle.wf_canon.proofs.Steps.{Reads, is_keyword}

-- ---- texts

or_left : (a b : Bool) → (a || b) ≡ false → a ≡ false
or_left true b e = absurd cc
or_left false b e = refl

or_right : (a b : Bool) → (a || b) ≡ false → b ≡ false
or_right true b e = absurd cc
or_right false b e = e

none_lacks : (q : ℕ) (t : List ℕ) → list_any (λ b. eqb b q) t ≡ false → lacks q t ≡ true
none_lacks q [] e = refl
none_lacks q (b ∷ t) e =
    let first : eqb b q ≡ false = or_left (eqb b q) (list_any (λ x. eqb x q) t) e in
    rw first (none_lacks q t (or_right (eqb b q) (list_any (λ x. eqb x q) t) e))

-- a text is written in a quote that it doesn't contain, since it doesn't contain both
lacks_its_quote : (double single : Bool) (t : List ℕ) → list_any (λ b. eqb b 34) t ≡ double → list_any (λ b. eqb b 39) t ≡ single → (double && single) ≡ false → lacks (cond double 39 34) t ≡ true
lacks_its_quote true true t d s e = absurd cc
lacks_its_quote true false t d s e = none_lacks 39 t s
lacks_its_quote false single t d s e = none_lacks 34 t d

pub text_lacks_both : (t : List ℕ) → is_text t ≡ true → has_both_quotes t ≡ false
unfolding is_text
text_lacks_both t e = not_true (has_both_quotes t) (and_right _ _ e)

pub written_text : (t : List ℕ) → is_text t ≡ true → is_written (Quoted t) ≡ true
written_text t e =
    rw e (lacks_its_quote (list_any (λ b. eqb b 34) t) (list_any (λ b. eqb b 39) t) t refl refl (text_lacks_both t e))

pub text_again : (t : List ℕ) → is_text t ≡ true → Reads text (Quoted t ∷ []) t
unfolding text argument
text_again t e = record { written = rw (written_text t e) refl; read = λ rest. rw e refl }

pub list_again : (inside : List ℕ) → is_value_list inside ≡ true → Reads value_list (Braced inside ∷ []) inside
unfolding value_list
list_again inside e = record { written = rw e refl; read = λ rest. rw e refl }

-- ---- numbers

pub number_again : (m : ℤ) → IsMicro m → Reads number (number_word m ∷ []) m
unfolding number argument
number_again m h = let word = number_word_is m h in record { written = rw word.0 refl; read = λ rest. rw (word.1, numbers.number_again m h) refl }

units : (n : ℕ) → (n * 1000000) / 1000000 ≡ n
units n = omega arith

no_parts : (n : ℕ) → (n * 1000000) % 1000000 ≡ 0
no_parts n = omega arith

-- an integer is written like the coordinate of that many units
whole_text : (n : ℕ) → number_text (pos (n * 1000000)) ≡ decimal n
unfolding number_text magnitude_text fraction_text
whole_text n = rw (units n, no_parts n) (append-nil (decimal n))

in_the_range : (least most n : ℕ) → least ≤ n → n ≤ most → whole_between least most (pos (n * 1000000)) ≡ Some n
unfolding whole_between
in_the_range least most n low high =
    let above : leb least n ≡ true = grind (arith, nat_tests) in
    let below : leb n most ≡ true = grind (arith, nat_tests) in
    rw (units n, no_parts n, above, below) refl

pub whole_again : (least most n : ℕ) → least ≤ n → n ≤ most → n ≤ 100000000 → Reads (whole least most) (whole_word n ∷ []) n
unfolding whole
whole_again least most n low high small =
    let read : Reads number (whole_word n ∷ []) (pos (n * 1000000)) = rw (whole_text n) at (number_again (pos (n * 1000000)) (omega arith)) in
    record { written = read.written; read = λ rest. rw (read.read rest, in_the_range least most n low high) refl }

-- ---- colours

pub color_again : (c : Color) → IsColor c → Reads color (whole_word c.r ∷ whole_word c.g ∷ whole_word c.b ∷ []) c
unfolding color rgb_color hash_digits
color_again c h = record {
  written = rw (decimal_is_word c.r (omega (arith, h.r)), decimal_is_word c.g (omega (arith, h.g)), decimal_is_word c.b (omega (arith, h.b))) refl;
  read = λ rest.
      rw (
        (whole_again 0 255 c.r (omega arith) (omega (arith, h.r)) (omega (arith, h.r))).read (whole_word c.g ∷ whole_word c.b ∷ rest),
        (whole_again 0 255 c.g (omega arith) (omega (arith, h.g)) (omega (arith, h.g))).read (whole_word c.b ∷ rest),
        (whole_again 0 255 c.b (omega arith) (omega (arith, h.b)) (omega (arith, h.b))).read rest,
      ) refl;
}

-- ---- words

-- one of a table's words
pub chosen_again : {A : Type 0} (table : List (List ℕ × A)) (w : List ℕ) (value : A) → is_keyword w ≡ true → choice table w ≡ Some value → Reads (one_of table) (Word w ∷ []) value
unfolding one_of argument is_keyword
chosen_again table w value known is = record {
  written = rw (and_left (is_word w) (not (is_end w)) known) refl;
  read = λ rest. rw (not_true (is_end w) (and_right (is_word w) (not (is_end w)) known), is) refl;
}
