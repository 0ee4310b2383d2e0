-- The rest of a text after its first bytes is a text, if those bytes are ASCII.
use Rattle.std.proofs.Common.{◌≡◌, ℕ, suc, ◌<◌, Bool, true, false, not, ◌&&◌, List, [], ◌∷◌, ◌++◌, length, min, take, drop, get_or, arith, refl, sym, ap, ◌∙◌}
use Rattle.std.specs.Prelude.{nat_le, codes, ◌==◌, if◌then◌else◌, Some, None, Result, Ok, Err}
use Rattle.std.specs.Char.{to_ascii_lowercase}
use Rattle.std.specs.Cmp.{first_so, second_so}
use Rattle.std.specs.List.{list_all, list_any}
use Rattle.std.specs.Str.{chars, IsUtf8, IsCharBoundary, str_eq_ignore_ascii_case, str_to_ascii_lowercase}
use Rattle.std.proofs.lemmas.Bool.Decides.{nat_tests}
use Rattle.std.proofs.lemmas.List.{take-append-drop}
use Rattle.std.proofs.lemmas.List.Folds.{list_all-append, list_any-append}
use Rattle.std.proofs.lemmas.Slice.Eq.{bytes_eq-Decides}
use Rattle.std.proofs.lemmas.Str.{IsUtf8-from_is_utf8, is_utf8-from_IsUtf8, IsUtf8-take, IsUtf8-drop, IsCharBoundary-after_ascii, chars-append}
use Rattle.wf_def.specs.Text.{is_text, is_text_character, has_both_quotes}
use Rattle.wf_def.specs.Limit.{most_text_bytes}
use Rattle.wf_block.specs.declared.fault.MapFault.{MapFault}
use Rattle.wf_block.specs.Token.{Token}
use Rattle.wf_block.specs.Grammar.{text}
use Rattle.wf_mapfile.specs.Layer.{processing}
use Rattle.wf_block.specs.ReadContract.{Gives}
use Rattle.std.proofs.lemmas.Bool.{and_from, or_right}

-- what fails for the whole fails for a part
fails_too : (a b : Bool) → not a ≡ true → (b ≡ true → a ≡ true) → not b ≡ true
fails_too a false n same = refl
fails_too a true n same = rw (same refl) at n

any_behind : (test : ℕ → Bool) (xs ys : List ℕ) → list_any test ys ≡ true → list_any test (xs ++ ys) ≡ true
any_behind test xs ys any = list_any-append test xs ys ∙ or_right (list_any test xs) (list_any test ys) any

quotes_behind : (xs ys : List ℕ) → has_both_quotes ys ≡ true → has_both_quotes (xs ++ ys) ≡ true
quotes_behind xs ys quotes =
    and_from _ _ (any_behind (λ b. b == 34) xs ys (first_so _ _ quotes)) (any_behind (λ b. b == 39) xs ys (second_so _ _ quotes))

-- a text cut at the beginning of a character
behind : (xs ys : List ℕ) → IsUtf8 xs → IsUtf8 ys → is_text (xs ++ ys) ≡ true → is_text ys ≡ true
unfolding is_text
behind xs ys front back may =
    let first = first_so _ _ may in
    let start = first_so _ _ first in
    let short : nat_le (length (xs ++ ys)) most_text_bytes ≡ true = first_so _ _ start in
    let shorter : nat_le (length ys) most_text_bytes ≡ true = within xs ys short in
    let each : (list_all is_text_character (chars xs) && list_all is_text_character (chars ys)) ≡ true =
    sym (list_all-append is_text_character (chars xs) (chars ys)) ∙ ap (list_all is_text_character) (sym (chars-append xs ys front)) ∙ second_so _ _ first in
    and_from _ _ (and_from _ _ (and_from _ _ shorter (is_utf8-from_IsUtf8 ys back)) (second_so _ _ each))
    (fails_too (has_both_quotes (xs ++ ys)) (has_both_quotes ys) (second_so _ _ may) (quotes_behind xs ys))
  where
    within : (xs ys : List ℕ) → nat_le (length (xs ++ ys)) most_text_bytes ≡ true → nat_le (length ys) most_text_bytes ≡ true
    within [] ys short = short
    within (x ∷ xs) ys short = within xs ys (less (length (xs ++ ys)) short) where
      less : (n : ℕ) → nat_le (suc n) most_text_bytes ≡ true → nat_le n most_text_bytes ≡ true
      less n is = grind (arith, nat_tests)

-- `=` has no other letter case
equals_sign : (f : ℕ) → (to_ascii_lowercase f == 61) ≡ true → f < 128
equals_sign f same = grind (arith, nat_tests)

utf8 : (bs : List ℕ) → is_text bs ≡ true → IsUtf8 bs
unfolding is_text
utf8 bs may = IsUtf8-from_is_utf8 bs (second_so _ _ (first_so _ _ (first_so _ _ may)))

-- after six bytes, the last of them ASCII
behind_sign : (bs : List ℕ) → 5 < length bs → get_or bs 5 0 < 128 → is_text bs ≡ true → is_text (drop 6 bs) ≡ true
behind_sign bs long sign may =
    let whole : IsUtf8 bs = utf8 bs may in
    let boundary : IsCharBoundary bs 6 = IsCharBoundary-after_ascii bs 5 whole long sign in
    behind (take 6 bs) (drop 6 bs) (IsUtf8-take bs 6 whole boundary) (IsUtf8-drop bs 6 whole boundary) (ap is_text (take-append-drop 6 bs) ∙ may)

-- the same letters, in lower case
names_by : (bs : List ℕ) → is_text bs ≡ true → str_to_ascii_lowercase (take 6 bs) ≡ str_to_ascii_lowercase (codes "ITEMS=") → is_text (drop 6 bs) ≡ true
names_by [] may all = let letters : [] ≡ 105 ∷ 116 ∷ 101 ∷ 109 ∷ 115 ∷ 61 ∷ [] = all in absurd (let impossible : ⊥ = cc in impossible)
names_by (a ∷ []) may all = let letters : to_ascii_lowercase a ∷ [] ≡ 105 ∷ 116 ∷ 101 ∷ 109 ∷ 115 ∷ 61 ∷ [] = all in absurd (let impossible : ⊥ = cc in impossible)
names_by (a ∷ b ∷ []) may all = let letters : to_ascii_lowercase a ∷ to_ascii_lowercase b ∷ [] ≡ 105 ∷ 116 ∷ 101 ∷ 109 ∷ 115 ∷ 61 ∷ [] = all in absurd (let impossible : ⊥ = cc in impossible)
names_by (a ∷ b ∷ c ∷ []) may all = let letters : to_ascii_lowercase a ∷ to_ascii_lowercase b ∷ to_ascii_lowercase c ∷ [] ≡ 105 ∷ 116 ∷ 101 ∷ 109 ∷ 115 ∷ 61 ∷ [] = all in absurd (let impossible : ⊥ = cc in impossible)
names_by (a ∷ b ∷ c ∷ d ∷ []) may all = let letters : to_ascii_lowercase a ∷ to_ascii_lowercase b ∷ to_ascii_lowercase c ∷ to_ascii_lowercase d ∷ [] ≡ 105 ∷ 116 ∷ 101 ∷ 109 ∷ 115 ∷ 61 ∷ [] = all in absurd (let impossible : ⊥ = cc in impossible)
names_by (a ∷ b ∷ c ∷ d ∷ e ∷ []) may all = let letters : to_ascii_lowercase a ∷ to_ascii_lowercase b ∷ to_ascii_lowercase c ∷ to_ascii_lowercase d ∷ to_ascii_lowercase e ∷ [] ≡ 105 ∷ 116 ∷ 101 ∷ 109 ∷ 115 ∷ 61 ∷ [] = all in absurd (let impossible : ⊥ = cc in impossible)
names_by (a ∷ b ∷ c ∷ d ∷ e ∷ f ∷ rest) may all =
    let letters : to_ascii_lowercase a ∷ to_ascii_lowercase b ∷ to_ascii_lowercase c ∷ to_ascii_lowercase d ∷ to_ascii_lowercase e ∷ to_ascii_lowercase f ∷ [] ≡ 105 ∷ 116 ∷ 101 ∷ 109 ∷ 115 ∷ 61 ∷ [] = all in
    let sign : to_ascii_lowercase f ≡ 61 = cc in
    behind_sign (a ∷ b ∷ c ∷ d ∷ e ∷ f ∷ rest) (omega arith) (equals_sign f (rw sign refl)) may

-- what follows `ITEMS=` in a text is a text
pub names-text : (bs : List ℕ) → is_text bs ≡ true → str_eq_ignore_ascii_case (take 6 bs) (codes "ITEMS=") ≡ true → is_text (drop 6 bs) ≡ true
names-text bs may same = names_by bs may ((bytes_eq-Decides (str_to_ascii_lowercase (take 6 bs)) (str_to_ascii_lowercase (codes "ITEMS="))).0 same)

-- the first six bytes, if there are that many
pub cut_take : (bs : List ℕ) → take (min (length bs) 6) bs ≡ take 6 bs
cut_take [] = refl
cut_take (a ∷ []) = refl
cut_take (a ∷ b ∷ []) = refl
cut_take (a ∷ b ∷ c ∷ []) = refl
cut_take (a ∷ b ∷ c ∷ d ∷ []) = refl
cut_take (a ∷ b ∷ c ∷ d ∷ e ∷ []) = refl
cut_take (a ∷ b ∷ c ∷ d ∷ e ∷ f ∷ rest) = let least : min (length (a ∷ b ∷ c ∷ d ∷ e ∷ f ∷ rest)) 6 ≡ 6 = omega arith in rw least

pub cut_drop : (bs : List ℕ) → drop (min (length bs) 6) bs ≡ drop 6 bs
cut_drop [] = refl
cut_drop (a ∷ []) = refl
cut_drop (a ∷ b ∷ []) = refl
cut_drop (a ∷ b ∷ c ∷ []) = refl
cut_drop (a ∷ b ∷ c ∷ d ∷ []) = refl
cut_drop (a ∷ b ∷ c ∷ d ∷ e ∷ []) = refl
cut_drop (a ∷ b ∷ c ∷ d ∷ e ∷ f ∷ rest) = let least : min (length (a ∷ b ∷ c ∷ d ∷ e ∷ f ∷ rest)) 6 ≡ 6 = omega arith in rw least

some_same : (x y : List ℕ) → Some x ≡ Some y → x ≡ y
some_same x y e = cc

-- PROCESSING's text with `ITEMS=` at its front, and without
module _ (tokens rest : List Token) (bs : List ℕ) (read : text tokens ≡ Some (bs, rest)) where
  pub names_rejected : str_eq_ignore_ascii_case (take 6 bs) (codes "ITEMS=") ≡ false → processing tokens ≡ None
  unfolding processing
  names_rejected other = rw (read, other)

  pub names_read : (names : List ℕ) (r : Result (List ℕ) MapFault) → is_text bs ≡ true → str_eq_ignore_ascii_case (take 6 bs) (codes "ITEMS=") ≡ true → names ≡ drop 6 bs →
      Gives (λ t. t) r (if is_text names then Some names else None) → Gives (λ t. (t, rest)) r (processing tokens)
  unfolding processing
  names_read names (Ok t) whole mark is given =
      let part : is_text names ≡ true = ap is_text is ∙ names-text bs whole mark in
      let same : names ≡ t = some_same names t (rw part at given) in
      rw (read, mark, ← is, same)
  names_read names (Err fault) whole mark is given = λ kept.
      let part : is_text names ≡ true = ap is_text is ∙ names-text bs whole mark in
      let none : Some names ≡ None = rw part at (given kept) in
      absurd (let impossible : ⊥ = cc in impossible)
