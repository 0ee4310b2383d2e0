-- Records at the front of bytes: their length, and that exactly they stand before bad bytes.
use Rattle.std.proofs.Common.{◌≡◌, ◌≢◌, ◌∙◌, ◌+◌, ◌<◌, ◌≤◌, ℕ, List, [], ◌∷◌, ◌++◌, true, false, length, take, drop, refl, sym, ap, subst, append_assoc, length-append, length-drop, arith}
use Rattle.std.proofs.lemmas.List.{nil_from_length, take_at}
use Rattle.wf_ballot.specs.Field.{frame}
use Rattle.wf_def.specs.Definition.{Definition}
use Rattle.wf_model.specs.DurableState.{Record}
use Rattle.wf_journal.specs.Journal.{IsBadAt}
use Rattle.wf_journal.specs.Records.{AreReadOneWay, AreRecords, BeginsWithNone, IsTapeOf, ReadsAs, Splits, length_of}
use Rattle.wf_journal.specs.Encoding.{spelling, text_spelling}
use Rattle.wf_journal.specs.EncodingTheorems.{length_of_encoding}
use Rattle.wf_listing.specs.Listing.{AreFound}

-- the records of bytes are as long as the bytes without the rest
pub length_splits : (bytes : List ℕ) (records : List (Record Definition)) (rest : List ℕ) → Splits bytes records rest → length bytes ≡ length_of records + length rest
unfolding length_of
length_splits bytes [] rest splits = omega (arith, ap length splits)
length_splits bytes (r ∷ records) rest splits =
    omega (arith, ap length splits.3, length-append splits.0 splits.1, length_of_encoding r splits.0 splits.2, length_splits splits.1 records rest splits.4)

-- the prefix of bytes before the rest
record IsFront (bytes : List ℕ) (records : List (Record Definition)) (rest : List ℕ) : Type 0 where
  pub front : List ℕ
  pub parts : bytes ≡ front ++ rest
  pub are_records : AreRecords front records

front_of : (bytes : List ℕ) (records : List (Record Definition)) (rest : List ℕ) → Splits bytes records rest → IsFront bytes records rest
front_of bytes [] rest splits = record { front = []; parts = splits; are_records = refl }
front_of bytes (r ∷ records) rest splits =
    let later = front_of splits.1 records rest splits.4 in
    record {
      front = splits.0 ++ later.front;
      parts = splits.3 ∙ ap (λ (t : List ℕ). splits.0 ++ t) later.parts ∙ sym (append_assoc splits.0 later.front rest);
      are_records = (splits.0, later.front, splits.2, refl, later.are_records);
    }

-- a record's encoding isn't empty
some_bytes : (r : Record Definition) → 1 ≤ length (spelling r)
unfolding text_spelling frame
some_bytes r = omega arith

none_begins_nothing : BeginsWithNone []
none_begins_nothing r spelled after spells e = absurd (omega (arith, some_bytes r, length_of_encoding r spelled spells, ap length e, length-append spelled after))

-- bad bytes aren't empty, so they begin within the bytes
pub bad_within : (bytes : List ℕ) (offset : ℕ) → IsBadAt bytes offset → offset < length bytes
bad_within bytes offset bad =
    let some : length (drop offset bytes) ≢ 0 = λ none. bad.2.not_clean (nil_from_length (drop offset bytes) none) in
    omega (arith, some, length-drop offset bytes)

-- exactly the records stand before the bad bytes
before_bad : (bytes : List ℕ) (offset : ℕ) (bad : IsBadAt bytes offset) → AreRecords (take offset bytes) bad.0
before_bad bytes offset bad =
    let found = front_of bytes bad.0 (drop offset bytes) bad.1 in
    let long : length found.front ≡ offset =
    omega (arith, ap length found.parts, length-append found.front (drop offset bytes), length-drop offset bytes, bad_within bytes offset bad) in
    subst (λ (t : List ℕ). AreRecords t bad.0) (sym (ap (λ (t : List ℕ). take offset t) found.parts ∙ take_at found.front (drop offset bytes) offset long)) found.are_records

read_before : (bytes : List ℕ) (offset : ℕ) (bad : IsBadAt bytes offset) → ReadsAs (take offset bytes) bad.0
read_before bytes offset bad = ([], record { splits = before_bad bytes offset bad; longest = none_begins_nothing })

-- records that nothing or a torn one follows
pub sound_found : (bytes : List ℕ) (records : List (Record Definition)) (rest : List ℕ) → IsTapeOf bytes records rest → AreFound bytes records false
sound_found bytes records rest is = record { left = rest; reads = is.reads; bad = λ clash. absurd cc; sound = λ _. is.clean_or_torn }

-- the records that are read before the bad bytes are all of them
pub bad_found : AreReadOneWay → (bytes : List ℕ) (offset : ℕ) → IsBadAt bytes offset → (records : List (Record Definition)) (rest : List ℕ) →
    IsTapeOf (take offset bytes) records rest → AreFound bytes records true
bad_found one_way bytes offset bad records rest is =
    let same : bad.0 ≡ records = one_way (take offset bytes) bad.0 records (read_before bytes offset bad) (rest, is.reads) in
    record {
      left = drop offset bytes;
      reads = record { splits = subst (λ (rs : List (Record Definition)). Splits bytes rs (drop offset bytes)) same bad.1; longest = bad.2.longest };
      bad = λ _. bad.2;
      sound = λ clash. absurd cc;
    }

-- and none of the bytes before the bad ones is bad
pub none_bad_before : AreReadOneWay → (bytes : List ℕ) (offset index : ℕ) → IsBadAt bytes offset → IsBadAt (take offset bytes) index → ⊥
none_bad_before one_way bytes offset index bad again =
    let same : bad.0 ≡ again.0 =
    one_way (take offset bytes) bad.0 again.0 (read_before bytes offset bad) (drop index (take offset bytes), record { splits = again.1; longest = again.2.longest }) in
    let none : length (drop index (take offset bytes)) ≡ 0 =
    omega (
      arith,
      length_splits (take offset bytes) bad.0 [] (before_bad bytes offset bad),
      length_splits (take offset bytes) again.0 (drop index (take offset bytes)) again.1,
      ap length_of same,
    ) in
    again.2.not_clean (nil_from_length (drop index (take offset bytes)) none)
