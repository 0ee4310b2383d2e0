-- A feature's values are texts: a piece between two semicolons of a text in UTF-8 is UTF-8, and no
-- longer than the whole.
use Rattle.std.proofs.Common.{◌≡◌, ◌≢◌, ℕ, zero, suc, ◌+◌, ◌*◌, ◌<◌, ◌≤◌, ◌==◌, Bool, true, false, List, [], ◌∷◌, ◌++◌, length, get_or, Option, Some, None, option_and_then, inl, inr, refl, sym, ap, subst, ◌∙◌, arith}
use Rattle.std.specs.Prelude.{nat_le}
use Rattle.std.specs.Cmp.{first_so, second_so}
use Rattle.std.proofs.lemmas.Bool.Decides.{nat_tests}
use Rattle.std.proofs.Math.Nat.{mul-le-mul}
use Rattle.std.proofs.lemmas.Bool.{cases_eq}
use Rattle.std.proofs.lemmas.List.{append-nil}
use Rattle.std.proofs.lemmas.List.Splits.{slice_split-cons_yes, slice_split-cons_no, length-slice_split}
use Rattle.std.proofs.lemmas.Str.{IsUtf8-from_is_utf8, IsUtf8-nil, IsUtf8-append, IsUtf8-encode, encode_ascii, encodes-chars, inside_one, length-le-encodes}
use Rattle.std.specs.Char.{encode_utf8}
use Rattle.std.specs.List.{AllByRecursion, slice_get, slice_split, onto_first}
use Rattle.std.specs.Str.{IsUtf8, chars, all_scalars, encode_utf8_all}
use Rattle.wf_def.specs.Attribute.{attribute, attribute_values}
use Rattle.wf_def.specs.Limit.{most_text_bytes}
use Rattle.wf_def.specs.Text.{IsText, is_text}
use Rattle.wf_label.specs.PixelBox.{text_width}
use Rattle.wf_label.specs.Limit.{cell_width}

-- ---- what a text is

pub text_is_short : (bytes : List ℕ) → IsText bytes → length bytes ≤ most_text_bytes
unfolding is_text
text_is_short bytes is =
    let short : nat_le (length bytes) most_text_bytes ≡ true = first_so _ _ (first_so _ _ (first_so _ _ is)) in
    grind (arith, nat_tests)

pub text_is_utf8 : (bytes : List ℕ) → IsText bytes → IsUtf8 bytes
unfolding is_text
text_is_utf8 bytes is = IsUtf8-from_is_utf8 bytes (second_so _ _ (first_so _ _ (first_so _ _ is)))

-- ---- pieces between semicolons

abbrev is_semicolon : ℕ → Bool
is_semicolon b = b == 59

-- bytes put before the first piece
abbrev ahead : List ℕ → List (List ℕ) → List (List ℕ)
ahead bytes [] = bytes ∷ []
ahead bytes (piece ∷ pieces) = (bytes ++ piece) ∷ pieces

onto_ahead : (b : ℕ) (bytes : List ℕ) (pieces : List (List ℕ)) → onto_first b (ahead bytes pieces) ≡ ahead (b ∷ bytes) pieces
onto_ahead b bytes [] = refl
onto_ahead b bytes (piece ∷ pieces) = refl

abbrev NoneIsSemicolon : List ℕ → Type 0
NoneIsSemicolon bytes = AllByRecursion (λ b. is_semicolon b ≡ false) bytes

ahead_nothing : (pieces : List (List ℕ)) → 0 < length pieces → pieces ≡ ahead [] pieces
ahead_nothing [] some = absurd (omega arith)
ahead_nothing (piece ∷ pieces) some = refl

some_piece : (rest : List ℕ) → 0 < length (slice_split is_semicolon rest)
some_piece rest = omega (arith, length-slice_split is_semicolon rest)

-- Bytes without a semicolon go before the first piece of what follows, since there is one.
split_ahead : (bytes rest : List ℕ) → NoneIsSemicolon bytes → slice_split is_semicolon (bytes ++ rest) ≡ ahead bytes (slice_split is_semicolon rest)
split_ahead [] rest none = ahead_nothing (slice_split is_semicolon rest) (some_piece rest)
split_ahead (b ∷ bytes) rest none =
    slice_split-cons_no is_semicolon b (bytes ++ rest) none.0 ∙ ap (onto_first b) (split_ahead bytes rest none.1)
    ∙ onto_ahead b bytes (slice_split is_semicolon rest)

not_semicolon : (b : ℕ) → b ≢ 59 → is_semicolon b ≡ false
not_semicolon b apart = grind (arith, nat_tests)

-- no byte of a character is a semicolon, unless it is the character
no_semicolon_inside : (c : ℕ) → c ≢ 59 → NoneIsSemicolon (encode_utf8 c)
no_semicolon_inside c apart = each (encode_utf8 c) (λ k within same. apart (inside_one c [] (encode_utf8 c) k (sym (append-nil (encode_utf8 c))) within (omega (arith, same)) ∙ same)) where
  each : (bytes : List ℕ) → ((k : ℕ) → k < length bytes → get_or bytes k 0 ≡ 59 → ⊥) → NoneIsSemicolon bytes
  each [] none = tt
  each (b ∷ bytes) none = (not_semicolon b (none 0 (omega arith)), each bytes (λ k within same. none (suc k) (omega arith) same))

abbrev AreUtf8 : List (List ℕ) → Type 0
AreUtf8 pieces = AllByRecursion IsUtf8 pieces

ahead_utf8 : (bytes : List ℕ) (pieces : List (List ℕ)) → IsUtf8 bytes → AreUtf8 pieces → AreUtf8 (ahead bytes pieces)
ahead_utf8 bytes [] is are = (is, tt)
ahead_utf8 bytes (piece ∷ pieces) is are = (IsUtf8-append bytes piece is are.0, are.1)

split_semicolon : (rest : List ℕ) → slice_split is_semicolon (encode_utf8 59 ++ rest) ≡ [] ∷ slice_split is_semicolon rest
split_semicolon rest =
    ap (λ (bytes : List ℕ). slice_split is_semicolon (bytes ++ rest)) (encode_ascii 59 (omega arith)) ∙ slice_split-cons_yes is_semicolon 59 rest refl

-- by the characters: a semicolon begins a piece, any other character goes onto the first one
pieces_utf8 : (cs : List ℕ) → all_scalars cs ≡ true → AreUtf8 (slice_split is_semicolon (encode_utf8_all cs))
pieces_utf8 [] are = (IsUtf8-nil, tt)
pieces_utf8 (c ∷ cs) are =
    let rest = pieces_utf8 cs (second_so _ _ are) in
    elim (cases_eq c 59) [
      | inl semicolon ↦ rw (semicolon, split_semicolon (encode_utf8_all cs)) (IsUtf8-nil, rest)
      | inr apart ↦ rw (split_ahead (encode_utf8 c) (encode_utf8_all cs) (no_semicolon_inside c apart))
          (ahead_utf8 (encode_utf8 c) (slice_split is_semicolon (encode_utf8_all cs)) (IsUtf8-encode c (first_so _ _ are)) rest)
    ]

-- ---- lengths

abbrev AreShort : ℕ → List (List ℕ) → Type 0
AreShort most pieces = AllByRecursion (λ piece. length piece ≤ most) pieces

short_more : (most more : ℕ) (pieces : List (List ℕ)) → most ≤ more → AreShort most pieces → AreShort more pieces
short_more most more [] le are = tt
short_more most more (piece ∷ pieces) le are = (omega (arith, are.0), short_more most more pieces le are.1)

onto_short : (most b : ℕ) (pieces : List (List ℕ)) → AreShort most pieces → AreShort (most + 1) (onto_first b pieces)
onto_short most b [] are = (omega arith, tt)
onto_short most b (piece ∷ pieces) are = (omega (arith, are.0), short_more most (most + 1) pieces (omega arith) are.1)

pieces_short : (bytes : List ℕ) → AreShort (length bytes) (slice_split is_semicolon bytes)
pieces_short [] = (omega arith, tt)
pieces_short (b ∷ bytes) = by_test (is_semicolon b) (pieces_short bytes) refl where
  longer : length (b ∷ bytes) ≡ length bytes + 1
  longer = omega arith

  by_test : (t : Bool) → AreShort (length bytes) (slice_split is_semicolon bytes) → is_semicolon b ≡ t → AreShort (length (b ∷ bytes)) (slice_split is_semicolon (b ∷ bytes))
  by_test true rest semicolon = rw (slice_split-cons_yes is_semicolon b bytes semicolon) (omega arith, short_more (length bytes) (length (b ∷ bytes)) _ (omega arith) rest)
  by_test false rest other = rw (slice_split-cons_no is_semicolon b bytes other, longer) (onto_short (length bytes) b _ rest)

-- ---- a value

at_index : {X : Type 0} (P : X → Type 0) (xs : List X) (i : ℕ) (x : X) → AllByRecursion P xs → slice_get xs i ≡ Some x → P x
at_index P [] i x all here = absurd cc
at_index P (y ∷ ys) zero x all here = let same : y ≡ x = cc in subst P same all.0
at_index P (y ∷ ys) (suc i) x all here = at_index P ys i x all.1 here

-- what a feature's value is
pub record IsShortText (value values : List ℕ) : Type 0 where
  pub utf8 : IsUtf8 value
  pub short : length value ≤ length values

piece_of_a_text : (values value : List ℕ) (index : Option ℕ) → IsUtf8 values → option_and_then (slice_get (attribute_values values)) index ≡ Some value → IsShortText value values
piece_of_a_text values value None is here = absurd cc
piece_of_a_text values value (Some i) is here = record {
  utf8 = at_index IsUtf8 (attribute_values values) i value (rw (← is.1.1) (pieces_utf8 is.0 is.1.0)) here;
  short = at_index (λ piece. length piece ≤ length values) (attribute_values values) i value (pieces_short values) here;
}

-- a feature's value under a name is UTF-8, and no longer than all its values
pub value_of_a_text : (names values name value : List ℕ) → IsUtf8 values → attribute names values name ≡ Some value → IsShortText value values
unfolding attribute
value_of_a_text names values [] value is here = absurd cc
value_of_a_text names values (b ∷ rest) value is here = piece_of_a_text values value _ is here

-- ---- how wide a short text is

chars_few : (text : List ℕ) → IsUtf8 text → length (chars text) ≤ length text
chars_few text is = subst (λ (bytes : List ℕ). length (chars text) ≤ length bytes) (encodes-chars text is) (length-le-encodes (chars text))

pub short_width : (scale : ℕ) (text : List ℕ) → scale ≤ 5 → IsUtf8 text → length text ≤ most_text_bytes → text_width scale text ≤ 20_000
unfolding text_width
short_width scale text most is short =
    let few = chars_few text is in
    let wide : cell_width * scale ≤ 20 = omega arith in
    let many : length (chars text) ≤ most_text_bytes = omega arith in
    mul-le-mul wide many
