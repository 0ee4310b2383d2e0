-- Digits without leading zeros are the same iff they are one number.
use Rattle.std.proofs.Common.{◌≡◌, ◌≢◌, ◌∙◌, ℕ, suc, ◌+◌, ◌*◌, ◌-◌, ◌<◌, ◌≤◌, Bool, true, false, ◌&&◌, cond, List, [], ◌∷◌, length, drop, bytes_eq, refl, sym, ap, subst, arith, inl, inr}
use Rattle.std.specs.Prelude.{◌==◌, ◌⊎◌, Some, None}
use Rattle.std.specs.Char.{is_ascii_digit}
use Rattle.std.specs.List.{list_all, prefix_len}
use Rattle.std.proofs.lemmas.Bool.{and_parts, leb-true, eqb-true, eqb-false, cases_lt, cases_order}
use Rattle.std.proofs.lemmas.Bool.Decides.{same_from_decides, Decides-eqb}
use Rattle.std.proofs.lemmas.Slice.Eq.{bytes_eq-Decides}
use Rattle.wf_text.specs.Number.{number_of_digits, spelled_onto}
use Rattle.wf_http.specs.Fields.{is_digits, is_number, is_zero, significant, first_of}

abbrev AreDigits : List ℕ → Type 0
AreDigits digits = list_all is_ascii_digit digits ≡ true

record IsDigit (b : ℕ) : Type 0 where
  low : 48 ≤ b
  high : b ≤ 57

digit : (b : ℕ) → is_ascii_digit b ≡ true → IsDigit b
digit b is = let both = and_parts _ _ is in record { low = leb-true 48 b both.0; high = leb-true b 57 both.1 }

-- ---- equally many digits

-- the numbers are the same only for the same digits: the last digit is the remainder by ten
same_digits : (xs ys : List ℕ) (n m : ℕ) → AreDigits xs → AreDigits ys → length xs ≡ length ys → spelled_onto n xs ≡ spelled_onto m ys → (n ≡ m) × (xs ≡ ys)
same_digits [] [] n m xs_are ys_are size is = (is, refl)
same_digits [] (y ∷ ys) n m xs_are ys_are size is = absurd (omega arith)
same_digits (x ∷ xs) [] n m xs_are ys_are size is = absurd (omega arith)
same_digits (x ∷ xs) (y ∷ ys) n m xs_are ys_are size is =
    let first = and_parts (is_ascii_digit x) (list_all is_ascii_digit xs) xs_are in
    let second = and_parts (is_ascii_digit y) (list_all is_ascii_digit ys) ys_are in
    let rest = same_digits xs ys (n * 10 + (x - 48)) (m * 10 + (y - 48)) first.1 second.1 (omega arith) is in
    let front : n * 10 + (x - 48) ≡ m * 10 + (y - 48) = rest.0 in
    let x_low : 48 ≤ x = (digit x first.0).low in
    let x_high : x ≤ 57 = (digit x first.0).high in
    let y_low : 48 ≤ y = (digit y second.0).low in
    let y_high : y ≤ 57 = (digit y second.0).high in
    let same : x ≡ y = omega arith in
    (omega arith, ap (λ (b : ℕ). b ∷ xs) same ∙ ap (λ (bs : List ℕ). y ∷ bs) rest.1)

-- a smaller number stays smaller when equally many digits follow
less : (xs ys : List ℕ) (n m : ℕ) → AreDigits xs → AreDigits ys → length xs ≡ length ys → n < m → spelled_onto n xs < spelled_onto m ys
less [] [] n m xs_are ys_are size front = front
less [] (y ∷ ys) n m xs_are ys_are size front = absurd (omega arith)
less (x ∷ xs) [] n m xs_are ys_are size front = absurd (omega arith)
less (x ∷ xs) (y ∷ ys) n m xs_are ys_are size front =
    let first = and_parts (is_ascii_digit x) (list_all is_ascii_digit xs) xs_are in
    let second = and_parts (is_ascii_digit y) (list_all is_ascii_digit ys) ys_are in
    let high : x ≤ 57 = (digit x first.0).high in
    less xs ys (n * 10 + (x - 48)) (m * 10 + (y - 48)) first.1 second.1 (omega arith) (omega arith)

-- ---- fewer digits

-- digits are a smaller number than as many, or more, after a prefix
below : (ys xs : List ℕ) (m : ℕ) → AreDigits xs → AreDigits ys → length xs ≤ length ys → 0 < m → spelled_onto 0 xs < spelled_onto m ys
below [] [] m xs_are ys_are short some = some
below [] (x ∷ xs) m xs_are ys_are short some = absurd (omega arith)
below (y ∷ ys) xs m xs_are ys_are short some =
    elim (cases_lt (length ys) (length xs)) [
      | inl full ↦ less xs (y ∷ ys) 0 m xs_are ys_are (omega arith) some
      | inr more ↦ below ys xs (m * 10 + (y - 48)) xs_are (and_parts (is_ascii_digit y) (list_all is_ascii_digit ys) ys_are).1 more (omega arith)
    ]

-- the digits begin with a zero
abbrev begins_with_zero : List ℕ → Bool
begins_with_zero [] = false
begins_with_zero (b ∷ bs) = is_zero b

-- fewer digits are a smaller number, if the others don't begin with a zero
fewer : (xs ys : List ℕ) → AreDigits xs → AreDigits ys → begins_with_zero ys ≡ false → length xs < length ys → number_of_digits xs < number_of_digits ys
fewer xs [] xs_are ys_are no_zero short = absurd (omega arith)
fewer xs (y ∷ ys) xs_are ys_are no_zero short =
    let first = and_parts (is_ascii_digit y) (list_all is_ascii_digit ys) ys_are in
    let low : 48 ≤ y = (digit y first.0).low in
    let other : y ≢ 48 = eqb-false y 48 no_zero in
    below ys xs (0 * 10 + (y - 48)) xs_are first.1 (omega arith) (omega arith)

same_by_size : (xs ys : List ℕ) → AreDigits xs → AreDigits ys → begins_with_zero xs ≡ false → begins_with_zero ys ≡ false → number_of_digits xs ≡ number_of_digits ys
    → (length xs ≡ length ys) ⊎ ((length xs < length ys) ⊎ (length ys < length xs)) → xs ≡ ys
same_by_size xs ys xs_are ys_are xs_begin ys_begin is (inl size) = (same_digits xs ys 0 0 xs_are ys_are size is).1
same_by_size xs ys xs_are ys_are xs_begin ys_begin is (inr (inl short)) = let unlike = fewer xs ys xs_are ys_are ys_begin short in absurd (omega arith)
same_by_size xs ys xs_are ys_are xs_begin ys_begin is (inr (inr short)) = let unlike = fewer ys xs ys_are xs_are xs_begin short in absurd (omega arith)

-- ---- leading zeros

-- the digits left when leading zeros are removed: they don't begin with one, and are the same
-- number
record IsLeft (digits left : List ℕ) : Type 0 where
  are_digits : AreDigits left
  no_zero : begins_with_zero left ≡ false
  same : number_of_digits left ≡ number_of_digits digits

left_step : (d : ℕ) (ds : List ℕ) → AreDigits (d ∷ ds) → (first : Bool) → is_zero d ≡ first → IsLeft ds (significant ds) → IsLeft (d ∷ ds) (significant (d ∷ ds))
left_step d ds are false is others =
    let none : prefix_len is_zero (d ∷ ds) ≡ 0 = ap (λ b. cond b (1 + prefix_len is_zero ds) 0) is in
    let all : significant (d ∷ ds) ≡ d ∷ ds = ap (λ n. drop n (d ∷ ds)) none in
    subst (λ left. IsLeft (d ∷ ds) left) (sym all) (record { are_digits = are; no_zero = is; same = refl })
left_step d ds are true is others =
    let one : prefix_len is_zero (d ∷ ds) ≡ suc (prefix_len is_zero ds) = ap (λ b. cond b (1 + prefix_len is_zero ds) 0) is ∙ omega arith in
    let rest : significant (d ∷ ds) ≡ significant ds = ap (λ n. drop n (d ∷ ds)) one in
    let byte : d ≡ 48 = eqb-true d 48 is in
    let nothing : 0 ≡ 0 * 10 + (d - 48) = omega arith in
    subst (λ left. IsLeft (d ∷ ds) left) (sym rest)
    (record { are_digits = others.are_digits; no_zero = others.no_zero; same = others.same ∙ ap (λ n. spelled_onto n ds) nothing })

significant_left : (digits : List ℕ) → AreDigits digits → IsLeft digits (significant digits)
significant_left [] are = record { are_digits = refl; no_zero = refl; same = refl }
significant_left (d ∷ ds) are =
    left_step d ds are (is_zero d) refl (significant_left ds (and_parts (is_ascii_digit d) (list_all is_ascii_digit ds) are).1)

-- ---- the theorem

same_number : (xs ys : List ℕ) → AreDigits xs → AreDigits ys → bytes_eq (significant xs) (significant ys) ≡ (number_of_digits xs == number_of_digits ys)
same_number xs ys xs_are ys_are =
    let first = significant_left xs xs_are in
    let second = significant_left ys ys_are in
    let bytes = bytes_eq-Decides (significant xs) (significant ys) in
    same_from_decides {P = number_of_digits xs ≡ number_of_digits ys} (bytes_eq (significant xs) (significant ys)) (number_of_digits xs == number_of_digits ys) (
      λ e. sym first.same ∙ ap (λ (ds : List ℕ). number_of_digits ds) (bytes.0 e) ∙ second.same,
      λ is. bytes.1 (same_by_size (significant xs) (significant ys) first.are_digits second.are_digits first.no_zero second.no_zero
          (first.same ∙ is ∙ sym second.same) (cases_order (length (significant xs)) (length (significant ys)))),
    ) (Decides-eqb (number_of_digits xs) (number_of_digits ys))

-- ---- the lengths of a body

digits_of : (digits : List ℕ) → is_digits digits ≡ true → AreDigits digits
digits_of [] is = refl
digits_of (b ∷ bs) is = is

same_numbers : (lengths : List (List ℕ)) (first : List ℕ) → is_digits first ≡ true → list_all is_digits lengths ≡ true
    → list_all (λ value. bytes_eq (significant value) (significant first)) lengths ≡ list_all (λ value. number_of_digits value == number_of_digits first) lengths
same_numbers [] first is are = refl
same_numbers (value ∷ lengths) first is are =
    let parts = and_parts (is_digits value) (list_all is_digits lengths) are in
    ap (λ t. t && list_all (λ other. bytes_eq (significant other) (significant first)) lengths) (same_number value first (digits_of value parts.0) (digits_of first is))
    ∙ ap (λ t. (number_of_digits value == number_of_digits first) && t) (same_numbers lengths first is parts.1)

first_is_digits : (lengths : List (List ℕ)) (first : List ℕ) → first_of lengths ≡ Some first → list_all is_digits lengths ≡ true → is_digits first ≡ true
first_is_digits [] first reported are = let clash : None ≡ Some first = reported in cc
first_is_digits (value ∷ lengths) first reported are =
    let same : Some value ≡ Some first = reported in
    let is : value ≡ first = cc in
    subst (λ digits. is_digits digits ≡ true) is (and_parts (is_digits value) (list_all is_digits lengths) are).0

both_step : (a b all one other : Bool) → all ≡ (one && other) → ((a && b) && all) ≡ ((a && one) && (b && other))
both_step true true all one other is = is
both_step true false all true other is = refl
both_step true false all false other is = refl
both_step false b all one other is = refl

-- two tests pass of each value if each of them does of all
all_both : (p q : List ℕ → Bool) (values : List (List ℕ)) → list_all (λ value. p value && q value) values ≡ (list_all p values && list_all q values)
all_both p q [] = refl
all_both p q (value ∷ values) = both_step (p value) (q value) (list_all (λ v. p v && q v) values) (list_all p values) (list_all q values) (all_both p q values)

numbers_alike : (lengths : List (List ℕ)) (first : List ℕ) (digits : Bool) → first_of lengths ≡ Some first → list_all is_digits lengths ≡ digits
    → (digits && list_all (λ value. bytes_eq (significant value) (significant first)) lengths)
    ≡ (digits && list_all (λ value. number_of_digits value == number_of_digits first) lengths)
numbers_alike lengths first true reported all = same_numbers lengths first (first_is_digits lengths first reported all) all
numbers_alike lengths first false reported all = refl

-- all lengths are digits, the same as the first one's leading zeros aside, iff they are one number
pub numbers_agree : (lengths : List (List ℕ)) (first : List ℕ) (same : Bool) → first_of lengths ≡ Some first → same ≡ list_all (is_number first) lengths
    → same ≡ (list_all is_digits lengths && list_all (λ value. number_of_digits value == number_of_digits first) lengths)
numbers_agree lengths first same reported is =
    is ∙ all_both is_digits (λ value. bytes_eq (significant value) (significant first)) lengths
    ∙ numbers_alike lengths first (list_all is_digits lengths) reported refl
