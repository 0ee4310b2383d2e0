-- The lines of one more record, and the listing of bytes as a whole.
use Rattle.std.proofs.Common.{◌≡◌, ◌∙◌, ◌+◌, ◌<◌, ◌≤◌, ◌-◌, ℕ, List, [], ◌∷◌, ◌++◌, Bool, true, false, cond, ltb, length, map, take, drop, get_or, refl, sym, ap, subst, append_assoc, arith, inl, inr}
use Rattle.std.proofs.Math.Seq.{drop-append_seam}
use Rattle.std.proofs.lemmas.Bool.{ltb-true, ltb-false}
use Rattle.std.proofs.lemmas.List.{append-nil, map-append, nil_from_length, take_more, take-append-drop}
use Rattle.std.specs.Prelude.{Result, Ok, Err, OnOk}
use Rattle.wf_def.specs.Definition.{Definition}
use Rattle.wf_model.specs.DurableState.{Record}
use Rattle.wf_journal.specs.Records.{AreReadOneWay, IsCleanOrTorn, IsTorn, Splits, length_of}
use Rattle.wf_journal.specs.Encoding.{spelling}
use Rattle.wf_journal.specs.EncodingTheorems.{length_of_encoding}
use Rattle.wf_listing.specs.declared.line.Rest.{Rest}
use Rattle.wf_listing.specs.declared.line.Rest.TheVariants as rests
use Rattle.wf_listing.proofs.Splits.{length_splits}
use Rattle.wf_listing.specs.Listing.{AreFound, HasOneListing, IsListing, IsRest, record_line, record_lines, rest_line, rest_of}

-- ---- one more record

length_on : (records : List (Record Definition)) (r : Record Definition) → length_of (records ++ r ∷ []) ≡ length_of records + length (spelling r)
unfolding length_of
length_on [] r = omega arith
length_on (q ∷ records) r = omega (arith, length_on records r)

lines_on : (offset : ℕ) (records : List (Record Definition)) (r : Record Definition) →
    record_lines offset (records ++ r ∷ []) ≡ record_lines offset records ++ record_line (offset + length_of records) r
unfolding record_lines length_of
lines_on offset [] r = append-nil (record_line offset r) ∙ ap (λ (k : ℕ). record_line k r) (let same : offset ≡ offset + 0 = omega arith in same)
lines_on offset (q ∷ records) r =
    let next : ℕ = offset + length (spelling q) in
    let there : next + length_of records ≡ offset + (length (spelling q) + length_of records) = omega arith in
    ap (λ (t : List ℕ). record_line offset q ++ t) (lines_on next records r ∙ ap (λ (k : ℕ). record_lines next records ++ record_line k r) there)
    ∙ sym (append_assoc (record_line offset q) (record_lines next records) (record_line (offset + (length (spelling q) + length_of records)) r))

module _ {X : Type 0} (view : X → Record Definition) (xs : List X) (i : ℕ) (x : X) (within : i < length xs) (is : x ≡ get_or xs i x) where
  next_records : map view (take (i + 1) xs) ≡ map view (take i xs) ++ view x ∷ []
  next_records = ap (map view) (take_more xs i x within ∙ ap (λ (y : X). take i xs ++ y ∷ []) (sym is)) ∙ map-append view (take i xs) (x ∷ [])

  -- the offset of what follows one more record
  pub next_length : length_of (map view (take (i + 1) xs)) ≡ length_of (map view (take i xs)) + length (spelling (view x))
  next_length = ap length_of next_records ∙ length_on (map view (take i xs)) (view x)

  -- its line comes after those before it
  pub next_lines : record_lines 0 (map view (take (i + 1) xs)) ≡ record_lines 0 (map view (take i xs)) ++ record_line (length_of (map view (take i xs))) (view x)
  next_lines =
      let front = map view (take i xs) in
      let at : 0 + length_of front ≡ length_of front = omega arith in
      ap (record_lines 0) next_records ∙ lines_on 0 front (view x) ∙ ap (λ (k : ℕ). record_lines 0 front ++ record_line k (view x)) at

length_append : (xs ys : List (Record Definition)) → length_of (xs ++ ys) ≡ length_of xs + length_of ys
unfolding length_of
length_append [] ys = omega arith
length_append (x ∷ xs) ys = omega (arith, length_append xs ys)

-- the first records are no longer than all
pub length_taken : {X : Type 0} (view : X → Record Definition) (xs : List X) (i : ℕ) → length_of (map view (take i xs)) ≤ length_of (map view xs)
length_taken {X} view xs i =
    let parts : map view xs ≡ map view (take i xs) ++ map view (drop i xs) =
    ap (map view) (sym (take-append-drop i xs)) ∙ map-append view (take i xs) (drop i xs) in
    omega (arith, ap length_of parts, length_append (map view (take i xs)) (map view (drop i xs)))

pub no_length : 0 ≡ length_of []
unfolding length_of
no_length = refl

pub no_lines : (text : List ℕ) → text ≡ text ++ record_lines 0 []
unfolding record_lines
no_lines text = sym (append-nil text)

-- one more line after the others
pub lines_joined : {X : Type 0} (view : X → Record Definition) (xs : List X) (i : ℕ) (x : X) → i < length xs → x ≡ get_or xs i x → (offset : ℕ) (before so_far after : List ℕ) →
    offset ≡ length_of (map view (take i xs)) → so_far ≡ before ++ record_lines 0 (map view (take i xs)) → after ≡ so_far ++ record_line offset (view x) →
    after ≡ before ++ record_lines 0 (map view (take (i + 1) xs))
lines_joined {X} view xs i x within is offset before so_far after at lines one_more =
    let front = record_lines 0 (map view (take i xs)) in
    one_more ∙ ap (λ (t : List ℕ). t ++ record_line offset (view x)) lines ∙ append_assoc before front (record_line offset (view x))
    ∙ ap (λ (k : ℕ). before ++ (front ++ record_line k (view x))) at
    ∙ ap (λ (t : List ℕ). before ++ t) (sym (next_lines view xs i x within is))

-- ---- the line of what follows the records

rest_found : (end count : ℕ) (left : List ℕ) (b : Bool) → b ≡ ltb end count → count ≡ end + length left → IsCleanOrTorn left →
    IsRest (cond b rests.Torn rests.Nothing) left
rest_found end count left true is long (inl none) = absurd (omega (arith, ltb-true end count (sym is), ap length none))
rest_found end count left true is long (inr torn) = torn
rest_found end count left false is long found = nil_from_length left (omega (arith, ltb-false end count (sym is)))

is_rest : (bytes : List ℕ) (records : List (Record Definition)) (is_bad : Bool) (found : AreFound bytes records is_bad) →
    IsRest (rest_of (length_of records) (length bytes) is_bad) found.left
is_rest bytes records true found = found.bad refl
is_rest bytes records false found =
    rest_found (length_of records) (length bytes) found.left (ltb (length_of records) (length bytes)) refl (length_splits bytes records found.left found.reads.splits) (found.sound refl)

-- the records end within the bytes
pub ends_within : (bytes : List ℕ) (records : List (Record Definition)) (is_bad : Bool) → AreFound bytes records is_bad → length_of records ≤ length bytes
ends_within bytes records is_bad found = omega (arith, length_splits bytes records found.left found.reads.splits)

-- the lines of the records, and then that of what follows them
pub is_listing : (bytes : List ℕ) (records : List (Record Definition)) (is_bad : Bool) → AreFound bytes records is_bad → (end count : ℕ) (rest : Rest) (before lines text : List ℕ) →
    before ≡ [] → end ≡ length_of records → count ≡ length bytes - end → rest ≡ rest_of end (length bytes) is_bad → lines ≡ before ++ record_lines 0 records →
    text ≡ lines ++ rest_line end count rest → IsListing bytes text
is_listing bytes records is_bad found end count rest before lines text empty at counted is has_lines has_rest =
    let left : count ≡ length found.left = omega (arith, at, counted, length_splits bytes records found.left found.reads.splits) in
    let rest_is : rest ≡ rest_of (length_of records) (length bytes) is_bad = is ∙ ap (λ (k : ℕ). rest_of k (length bytes) is_bad) at in
    let last : rest_line end count rest ≡ rest_line (length_of records) (length found.left) rest =
    ap (λ (k : ℕ). rest_line k count rest) at ∙ ap (λ (k : ℕ). rest_line (length_of records) k rest) left in
    let whole : lines ≡ record_lines 0 records = has_lines ∙ ap (λ (t : List ℕ). t ++ record_lines 0 records) empty in
    record {
      records = records;
      left = found.left;
      reads = found.reads;
      rest = rest;
      is_rest = subst (λ (r : Rest). IsRest r found.left) (sym rest_is) (is_rest bytes records is_bad found);
      lines = has_rest ∙ ap (λ (t : List ℕ). t ++ rest_line end count rest) whole ∙ ap (λ (t : List ℕ). record_lines 0 records ++ t) last;
    }

pub listed : {A E : Type 0} (bytes : List ℕ) (records : List (Record Definition)) (is_bad : Bool) → AreFound bytes records is_bad → (end count : ℕ) (rest : Rest) (before lines text : List ℕ) (result : Result A E) →
    before ≡ [] → end ≡ length_of records → count ≡ length bytes - end → rest ≡ rest_of end (length bytes) is_bad → lines ≡ before ++ record_lines 0 records →
    OnOk result (text ≡ lines ++ rest_line end count rest) → OnOk result (IsListing bytes text)
listed bytes records is_bad found end count rest before lines text (Ok done) empty at counted is has_lines has_rest =
    is_listing bytes records is_bad found end count rest before lines text empty at counted is has_lines has_rest
listed bytes records is_bad found end count rest before lines text (Err error) empty at counted is has_lines has_rest = tt

-- ---- there is one listing

-- the rest after the same records is the same
same_left : (bytes : List ℕ) (records : List (Record Definition)) (left other : List ℕ) → Splits bytes records left → Splits bytes records other → left ≡ other
same_left bytes [] left other a b = sym a ∙ b
same_left bytes (r ∷ records) left other a b =
    let same_length : length a.0 ≡ length b.0 = length_of_encoding r a.0 a.2 ∙ sym (length_of_encoding r b.0 b.2) in
    let same_after : a.1 ≡ b.1 =
    sym (drop-append_seam a.0 a.1) ∙ ap (drop (length a.0)) (sym a.3 ∙ b.3) ∙ ap (λ (n : ℕ). drop n (b.0 ++ b.1)) same_length ∙ drop-append_seam b.0 b.1 in
    same_left a.1 records left other a.4 (subst (λ (t : List ℕ). Splits t records other) (sym same_after) b.4)

-- nothing, a torn record and bad bytes exclude one another
same_rest : (rest other : Rest) (left : List ℕ) → IsRest rest left → IsRest other left → rest ≡ other
same_rest rests.Nothing rests.Nothing left a b = refl
same_rest rests.Nothing rests.Torn left a b = absurd (subst IsTorn a b)
same_rest rests.Nothing rests.Bad left a b = absurd (b.not_clean a)
same_rest rests.Torn rests.Nothing left a b = absurd (subst IsTorn b a)
same_rest rests.Torn rests.Torn left a b = refl
same_rest rests.Torn rests.Bad left a b = absurd (b.not_torn a)
same_rest rests.Bad rests.Nothing left a b = absurd (a.not_clean b)
same_rest rests.Bad rests.Torn left a b = absurd (a.not_torn b)
same_rest rests.Bad rests.Bad left a b = refl

pub one_listing : AreReadOneWay → (bytes : List ℕ) → HasOneListing bytes
one_listing one_way bytes text other a b =
    let records : a.records ≡ b.records = one_way bytes a.records b.records (a.left, a.reads) (b.left, b.reads) in
    let left : a.left ≡ b.left =
    same_left bytes b.records a.left b.left (subst (λ (rs : List (Record Definition)). Splits bytes rs a.left) records a.reads.splits) b.reads.splits in
    let rest : a.rest ≡ b.rest = same_rest a.rest b.rest b.left (subst (λ (t : List ℕ). IsRest a.rest t) left a.is_rest) b.is_rest in
    a.lines ∙ ap (λ (rs : List (Record Definition)). record_lines 0 rs ++ rest_line (length_of rs) (length a.left) a.rest) records
    ∙ ap (λ (t : List ℕ). record_lines 0 b.records ++ rest_line (length_of b.records) (length t) a.rest) left
    ∙ ap (λ (r : Rest). record_lines 0 b.records ++ rest_line (length_of b.records) (length b.left) r) rest ∙ sym b.lines
