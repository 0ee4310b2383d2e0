-- A number's text is a word, and begins with a digit or `-`.
use Rattle.std.proofs.Common.{◌≡◌, ℕ, suc, ◌/◌, ◌%◌, ◌^◌, ◌<◌, ◌≤◌, true, false, not, ◌&&◌, List, [], ◌∷◌, ◌++◌, length, refl, arith, inl, inr}
use Rattle.std.specs.Prelude.{ℤ, pos, negsuc}
use Rattle.std.specs.Char.{is_ascii_digit}
use Rattle.std.specs.List.{list_all}
use Rattle.std.specs.Fmt.{decimal}
use Rattle.std.proofs.lemmas.Bool.Decides.{nat_tests}
use Rattle.std.proofs.lemmas.Fmt.{decimal_nonempty}
use Rattle.std.proofs.lemmas.List.{append-nil}
use Rattle.std.proofs.lemmas.List.Folds.{list_all-append}
use Rattle.wf_text.specs.Number.{IsMicro}
use Rattle.wf_text.specs.NumberForm.{AreDigits}
use Rattle.wf_block.specs.Token.{is_plain, is_slash, is_quote, is_hash}
use Rattle.wf_text.specs.NumberText.{fraction_digits, fraction_text, magnitude_text, number_text}
use Rattle.wf_block.specs.Spelling.{is_word, begins_like_number}
use Rattle.wf_text.specs.Booleans.{and_left, and_right}
use Rattle.wf_text.specs.NumberTextTheorems.{are_digits_decimal, magnitude_is_spelled, fraction_text-cases}

digit_is_plain : (b : ℕ) → is_ascii_digit b ≡ true → is_plain b ≡ true
unfolding is_plain is_quote is_hash
digit_is_plain b e = grind (arith, nat_tests)

digit_is_no_slash : (b : ℕ) → is_ascii_digit b ≡ true → is_slash b ≡ false
unfolding is_slash
digit_is_no_slash b e = grind (arith, nat_tests)

digits_are_plain : (ds : List ℕ) → AreDigits ds → list_all is_plain ds ≡ true
digits_are_plain [] e = refl
digits_are_plain (d ∷ ds) e =
    rw (digit_is_plain d (and_left (is_ascii_digit d) (list_all is_ascii_digit ds) e)) (digits_are_plain ds (and_right (is_ascii_digit d) (list_all is_ascii_digit ds) e))

plain_behind : (xs ys : List ℕ) → list_all is_plain xs ≡ true → list_all is_plain ys ≡ true → list_all is_plain (xs ++ ys) ≡ true
plain_behind xs ys e f = rw (list_all-append is_plain xs ys, e) f

-- a word that begins with a digit, or with `-`
abbrev pub IsNumberWord : List ℕ → Type 0
IsNumberWord w = (is_word w ≡ true) × (begins_like_number w ≡ true)

pub digits_word : (ds tail : List ℕ) → AreDigits ds → 0 < length ds → list_all is_plain tail ≡ true → IsNumberWord (ds ++ tail)
digits_word [] tail e some plain = absurd (omega arith)
digits_word (d ∷ ds) tail e some plain =
    let digit : is_ascii_digit d ≡ true = and_left (is_ascii_digit d) (list_all is_ascii_digit ds) e in
    let others : list_all is_plain (ds ++ tail) ≡ true = plain_behind ds tail (digits_are_plain ds (and_right (is_ascii_digit d) (list_all is_ascii_digit ds) e)) plain in
    (rw (digit_is_no_slash d digit, digit_is_plain d digit) others, rw digit refl)

minus_word : (w : List ℕ) → list_all is_plain w ≡ true → IsNumberWord (45 ∷ w)
unfolding is_plain is_slash is_quote is_hash
minus_word w plain = (plain, refl)

pub word_is_plain : (w : List ℕ) → is_word w ≡ true → list_all is_plain w ≡ true
word_is_plain [] e = refl
word_is_plain (b ∷ w) e =
    rw (and_right (not (is_slash b)) (is_plain b) (and_left (not (is_slash b) && is_plain b) (list_all is_plain w) e)) (and_right (not (is_slash b) && is_plain b) (list_all is_plain w) e)

fraction_is_plain : (n parts : ℕ) → AreDigits (fraction_digits 6 parts) → list_all is_plain (fraction_text parts) ≡ true
unfolding is_plain is_quote is_hash
fraction_is_plain n parts digits = elim (fraction_text-cases parts) [
  | inl none ↦ rw none.0 refl
  | inr some ↦ rw some (digits_are_plain (fraction_digits 6 parts) digits)
]

magnitude_word : (n : ℕ) → n ≤ 100000000000000 → IsNumberWord (magnitude_text n)
unfolding magnitude_text
magnitude_word n most =
    let spelled = magnitude_is_spelled n most in
    digits_word (decimal (n / 1000000)) (fraction_text (n % 1000000)) spelled.digits spelled.some (fraction_is_plain n (n % 1000000) spelled.fraction)

pub number_word_is : (m : ℤ) → IsMicro m → IsNumberWord (number_text m)
unfolding number_text
number_word_is (pos n) most = magnitude_word n most
number_word_is (negsuc n) most =
    minus_word (magnitude_text (suc n)) (word_is_plain (magnitude_text (suc n)) (magnitude_word (suc n) most).0)

-- a number's text is a word
pub number_is_word : (m : ℤ) → IsMicro m → is_word (number_text m) ≡ true
number_is_word m h = (number_word_is m h).0

-- the digits of an integer are a word
pub decimal_is_word : (n : ℕ) → n < 2 ^ 64 → is_word (decimal n) ≡ true
decimal_is_word n fits =
    rw (← append-nil (decimal n)) (digits_word (decimal n) [] (are_digits_decimal n fits) (decimal_nonempty n fits) refl).0
