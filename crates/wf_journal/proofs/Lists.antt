-- The records of bytes: there is exactly one longest list of them, an appended record is one more,
-- and part of a record is none.
use Rattle.std.proofs.Common.{◌≡◌, ◌⊎◌, ℕ, ◌+◌, ◌^◌, ◌<◌, ◌≤◌, List, [], ◌∷◌, ◌++◌, ◌-◌, length, map, take, drop, get_or, refl, sym, ap, subst, ◌∙◌, append_assoc, length-append, length-drop, arith, inl, inr}
use Rattle.std.proofs.lemmas.List.{append-nil, map-append, take_at, drop_at, take_more, take-append-drop}
use Rattle.wf_def.specs.Definition.{Definition}
use Rattle.wf_canon.specs.TextMeaning.{OneTextOneMap}
use Rattle.wf_model.specs.DurableState.{Record}
use Rattle.wf_journal.specs.Record.{IsRecord}
use Rattle.wf_journal.specs.Encoding.{spelling, spellings, Encodes}
use Rattle.wf_journal.specs.Records.{Splits, BeginsWithNone, ReadsAs, AreRecords, AreWritten, IsCleanOrTorn, IsTapeOf, IsBad, length_of}
use Rattle.wf_journal.specs.Front.{TakesOne, HasRead}
use Rattle.wf_journal.specs.Journal.{IsBadAt}
use Rattle.wf_journal.specs.EncodingTheorems.{length_of_encoding, written_encodes}
pub use Rattle.wf_journal.specs.RecordTheorems.{none_begins_nothing, whole_reads}
use Rattle.wf_journal.proofs.Validated.{none_begins_another}

-- one record more, split off the rest
pub splits_push : (bytes : List ℕ) (records : List (Record Definition)) (rest : List ℕ) (r : Record Definition) (spelled after : List ℕ) →
    Splits bytes records rest → Encodes r spelled → rest ≡ spelled ++ after → Splits bytes (records ++ r ∷ []) after
splits_push bytes [] rest r spelled after splits spells e = (spelled, after, spells, splits ∙ e, refl)
splits_push bytes (q ∷ records) rest r spelled after splits spells e =
    (splits.0, splits.1, splits.2, splits.3, splits_push splits.1 records rest r spelled after splits.4 spells e)

-- bytes appended are appended to the rest
pub splits_on : (bytes : List ℕ) (records : List (Record Definition)) (rest more : List ℕ) → Splits bytes records rest → Splits (bytes ++ more) records (rest ++ more)
splits_on bytes [] rest more splits = ap (λ (t : List ℕ). t ++ more) splits
splits_on bytes (r ∷ records) rest more splits =
    (splits.0, splits.1 ++ more, splits.2, ap (λ (t : List ℕ). t ++ more) splits.3 ∙ append_assoc splits.0 splits.1 more, splits_on splits.1 records rest more splits.4)

-- the prefix of bytes before the rest
pub record IsFront (bytes : List ℕ) (records : List (Record Definition)) (rest : List ℕ) : Type 0 where
  pub front : List ℕ
  pub parts : bytes ≡ front ++ rest
  pub are_records : AreRecords front records

pub front_of : (bytes : List ℕ) (records : List (Record Definition)) (rest : List ℕ) → Splits bytes records rest → IsFront bytes records rest
front_of bytes [] rest splits = record { front = []; parts = splits; are_records = refl }
front_of bytes (r ∷ records) rest splits =
    let later = front_of splits.1 records rest splits.4 in
    record {
      front = splits.0 ++ later.front;
      parts = splits.3 ∙ ap (λ (t : List ℕ). splits.0 ++ t) later.parts ∙ sym (append_assoc splits.0 later.front rest);
      are_records = (splits.0, later.front, splits.2, refl, later.are_records);
    }

-- There is exactly one longest list of records: two such lists are compared record by record.
pub one_reading : OneTextOneMap → (bytes : List ℕ) (xs ys : List (Record Definition)) (rest_x rest_y : List ℕ) → Splits bytes xs rest_x → BeginsWithNone rest_x →
    Splits bytes ys rest_y → BeginsWithNone rest_y → xs ≡ ys
one_reading one_map bytes [] [] rest_x rest_y x none_x y none_y = refl
one_reading one_map bytes [] (r ∷ ys) rest_x rest_y x none_x y none_y = absurd (none_x r y.0 y.1 y.2 (sym x ∙ y.3))
one_reading one_map bytes (q ∷ xs) [] rest_x rest_y x none_x y none_y = absurd (none_y q x.0 x.1 x.2 (sym y ∙ x.3))
one_reading one_map bytes (q ∷ xs) (r ∷ ys) rest_x rest_y x none_x y none_y =
    let same = none_begins_another one_map q r x.0 y.0 x.1 y.1 x.2 y.2 (sym x.3 ∙ y.3) in
    let later = one_reading one_map x.1 xs ys rest_x rest_y x.4 none_x (subst (λ (t : List ℕ). Splits t ys rest_y) (sym same.2) y.4) none_y in
    ap (λ (p : Record Definition). p ∷ xs) same.0 ∙ ap (λ (ps : List (Record Definition)). r ∷ ps) later

-- whole records read as no other list
pub reads_only : OneTextOneMap → (bytes : List ℕ) (records others : List (Record Definition)) → AreRecords bytes records → ReadsAs bytes others → records ≡ others
reads_only one_map bytes records others are reads = one_reading one_map bytes records others [] reads.0 are none_begins_nothing reads.1.splits reads.1.longest

-- A prefix of a record begins with no record: what follows the cut would follow the whole record
-- too.
pub cut_begins_none : OneTextOneMap → (r : Record Definition) (front : List ℕ) (byte : ℕ) (after : List ℕ) → Encodes r (front ++ byte ∷ after) → BeginsWithNone front
cut_begins_none one_map r front byte after spells q spelled behind spells_q e =
    let longer : spelled ++ (behind ++ byte ∷ after) ≡ (front ++ byte ∷ after) ++ [] =
    sym (append_assoc spelled behind (byte ∷ after)) ∙ ap (λ (t : List ℕ). t ++ byte ∷ after) (sym e) ∙ sym (append-nil (front ++ byte ∷ after)) in
    let same = none_begins_another one_map q r spelled (front ++ byte ∷ after) (behind ++ byte ∷ after) [] spells_q spells longer in
    absurd (omega (arith, ap length same.2, length-append behind (byte ∷ after)))

-- one more record after whole records
pub one_more : (content : List ℕ) (records : List (Record Definition)) (r : Record Definition) (spelled : List ℕ) → AreRecords content records → Encodes r spelled →
    AreRecords (content ++ spelled) (records ++ r ∷ [])
one_more content records r spelled are spells = splits_push (content ++ spelled) records spelled r spelled [] (splits_on content records [] spelled are) spells (sym (append-nil spelled))

pub nothing_spelled : (bytes : List ℕ) → bytes ≡ [] → bytes ≡ spellings []
unfolding spellings
nothing_spelled bytes none = none

-- one more record behind others
spellings-push : (records : List (Record Definition)) (r : Record Definition) → spellings (records ++ r ∷ []) ≡ spellings records ++ spelling r
unfolding spellings
spellings-push [] r = append-nil (spelling r)
spellings-push (q ∷ records) r = ap (λ (t : List ℕ). spelling q ++ t) (spellings-push records r) ∙ sym (append_assoc (spelling q) (spellings records) (spelling r))

-- One more element of a list is a record that was appended.
pub one_more_taken : {X : Type 0} (view : X → Record Definition) (content new : List ℕ) (xs : List X) (i : ℕ) (x : X) → i < length xs → x ≡ get_or xs i x →
    AreWritten content (map view (take i xs)) → IsRecord (view x) → new ≡ content ++ spelling (view x) → AreWritten new (map view (take (i + 1) xs))
one_more_taken {X} view content new xs i x within is are is_record spelled =
    let next : take (i + 1) xs ≡ take i xs ++ x ∷ [] = take_more xs i x within ∙ ap (λ (y : X). take i xs ++ y ∷ []) (sym is) in
    let records : map view (take (i + 1) xs) ≡ map view (take i xs) ++ view x ∷ [] = ap (map view) next ∙ map-append view (take i xs) (x ∷ []) in
    let appended = one_more content (map view (take i xs)) (view x) (spelling (view x)) are.are_records (written_encodes (view x) (spelling (view x)) (record { is_record = is_record; spelled = refl })) in
    record {
      are_records = subst (λ (t : List ℕ). AreRecords t (map view (take (i + 1) xs))) (sym spelled)
          (subst (λ (rs : List (Record Definition)). AreRecords (content ++ spelling (view x)) rs) (sym records) appended);
      spelled = spelled ∙ ap (λ (t : List ℕ). t ++ spelling (view x)) are.spelled ∙ sym (spellings-push (map view (take i xs)) (view x)) ∙ ap spellings (sym records);
    }

-- Whole records followed by a prefix of one more read as the same records, or as one more if the
-- prefix is the whole record.
pub cut_reads : OneTextOneMap → (content : List ℕ) (records : List (Record Definition)) (r : Record Definition) (front after : List ℕ) → AreRecords content records → Encodes r (front ++ after) →
    ReadsAs (content ++ front) records ⊎ ReadsAs (content ++ front) (records ++ r ∷ [])
cut_reads one_map content records r front [] are spells =
    let whole : Encodes r front = subst (λ (t : List ℕ). Encodes r t) (append-nil front) spells in
    inr (whole_reads (content ++ front) (records ++ r ∷ []) (one_more content records r front are whole))
cut_reads one_map content records r front (byte ∷ after) are spells =
    inl (front, record { splits = splits_on content records [] front are; longest = cut_begins_none one_map r front byte after spells })

-- ---- the bytes of a tape

-- The first n bytes of a tape's content are its records, if the rest follows them.
pub first_are_records : (bytes : List ℕ) (records : List (Record Definition)) (n : ℕ) → n ≤ length bytes → Splits bytes records (drop n bytes) → AreRecords (take n bytes) records
first_are_records bytes records n within splits =
    let found = front_of bytes records (drop n bytes) splits in
    let long : length found.front ≡ n = omega (arith, ap length found.parts, length-append found.front (drop n bytes), length-drop n bytes, within) in
    subst (λ (t : List ℕ). AreRecords t records) (sym (ap (λ (t : List ℕ). take n t) found.parts ∙ take_at found.front (drop n bytes) n long)) found.are_records

-- the rest is at the end of the bytes
pub rest_stands : (bytes : List ℕ) (records : List (Record Definition)) (rest : List ℕ) → Splits bytes records rest → drop (length bytes - length rest) bytes ≡ rest
rest_stands bytes records rest splits =
    let found = front_of bytes records rest splits in
    let long : length found.front ≡ length bytes - length rest = omega (arith, ap length found.parts, length-append found.front rest) in
    ap (λ (t : List ℕ). drop (length bytes - length rest) t) found.parts ∙ drop_at found.front rest (length bytes - length rest) long

pub rest_within : (bytes : List ℕ) (records : List (Record Definition)) (rest : List ℕ) → Splits bytes records rest → length rest ≤ length bytes
rest_within bytes records rest splits = let found = front_of bytes records rest splits in omega (arith, ap length found.parts, length-append found.front rest)

-- ---- one record after the other

-- a record is taken off the front of the rest
pub takes_one : (bytes : List ℕ) (rest : List ℕ) (n : ℕ) (old new : List (Record Definition)) → Splits bytes old rest → TakesOne rest n old new → Splits bytes new (drop n rest)
takes_one bytes rest n old new splits takes =
    subst (λ (rs : List (Record Definition)). Splits bytes rs (drop n rest)) (sym takes.one_more)
    (splits_push bytes old rest takes.taken (take n rest) (drop n rest) splits takes.begins.encodes (sym (take-append-drop n rest)))

-- the rest is shorter
pub takes_less : (rest : List ℕ) (n : ℕ) (old new : List (Record Definition)) → TakesOne rest n old new → length (drop n rest) < length rest
takes_less rest n old new takes = omega (arith, length-drop n rest, takes.begins.not_empty, takes.begins.within)

-- all is read: the rest is empty or a torn record
pub all_read : (bytes : List ℕ) (records : List (Record Definition)) (rest : List ℕ) → Splits bytes records rest → BeginsWithNone rest → IsCleanOrTorn rest → HasRead bytes records (length bytes - length rest)
all_read bytes records rest splits longest clean_or_torn =
    let there = rest_stands bytes records rest splits in
    record {
      within = omega arith;
      is_tape = subst (λ (t : List ℕ). IsTapeOf bytes records t) (sym there) (record { reads = record { splits = splits; longest = longest }; clean_or_torn = clean_or_torn });
    }

-- the rest is bad
pub bad_there : (bytes : List ℕ) (records : List (Record Definition)) (rest : List ℕ) → Splits bytes records rest → IsBad rest → IsBadAt bytes (length bytes - length rest)
bad_there bytes records rest splits bad =
    let there = rest_stands bytes records rest splits in
    (records, subst (λ (t : List ℕ). Splits bytes records t) (sym there) splits, subst (λ (t : List ℕ). IsBad t) (sym there) bad)

-- ---- the length of records in bytes

length_splits : (bytes : List ℕ) (records : List (Record Definition)) (rest : List ℕ) → Splits bytes records rest → length bytes ≡ length_of records + length rest
unfolding length_of
length_splits bytes [] rest splits = omega (arith, ap length splits)
length_splits bytes (r ∷ records) rest splits =
    omega (arith, ap length splits.3, length-append splits.0 splits.1, length_of_encoding r splits.0 splits.2, length_splits splits.1 records rest splits.4)

-- The length of records that were read is below 2 ^ 64.
pub length_of_read : (bytes : List ℕ) (records : List (Record Definition)) (n : ℕ) → HasRead bytes records n → n < 2 ^ 64 → length_of records < 2 ^ 64
length_of_read bytes records n read short =
    omega (arith, length_splits bytes records (drop n bytes) read.is_tape.reads.splits, length-drop n bytes, read.within)
