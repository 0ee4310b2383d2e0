-- A tape that a crash within a step left, and the node that is opened from it: which durable state
-- it has shows in the tape's length.
use Rattle.std.proofs.Common.{◌≡◌, ℕ, ◌+◌, ◌<◌, true, false, List, [], ◌∷◌, ◌++◌, length, take, Option, Some, None, sym, ap, subst, ◌∙◌, arith, inl, inr, Bool, nat_lt, length-append, if◌then◌else◌}
use Rattle.wf_farm.proofs.Common.{le-ltb, lt-ltb, append-nil, nil_from_length, take-take, take_all, same_Some, Definition, DurableState, Record, fold, ReadsOn, ReadsWith, IsFoldOf, Follows, IsSettled, ReadsSame, TapeValue, IsImageNow, AreRecords, BeginsWithNone, ReadsAs, Splits, length_of, IsCutTape, kept_beyond, stored_by}
use Rattle.wf_ballot.specs.Field.{frame}
use Rattle.wf_journal.specs.Encoding.{spelling, text_spelling}
use Rattle.wf_journal.specs.EncodingTheorems.{length_of_encoding}
use Rattle.wf_tape.specs.Tape.{IsPrefixOf}
use Rattle.wf_model.specs.declared.action.Kept.TheVariants as declared
use Rattle.wf_model.specs.Kept.{view as view_kept}
use Rattle.wf_delivery.proofs.Stored.{begins_taken, read_one_way}

-- ---- records by their bytes

some_bytes : (r : Record Definition) → 0 < length (spelling r)
unfolding text_spelling frame
some_bytes r = omega arith

none_begins_nothing : BeginsWithNone []
none_begins_nothing r spelled after spells e = absurd (omega (arith, some_bytes r, length_of_encoding r spelled spells, ap length e, length-append spelled after))

-- whole records read as themselves
whole_reads : (bytes : List ℕ) (records : List (Record Definition)) → AreRecords bytes records → ReadsAs bytes records
whole_reads bytes records are = ([], record { splits = are; longest = none_begins_nothing })

long_splits : (bytes : List ℕ) (records : List (Record Definition)) (rest : List ℕ) → Splits bytes records rest → length bytes ≡ length_of records + length rest
unfolding length_of
long_splits bytes [] rest splits = omega (arith, ap length splits)
long_splits bytes (r ∷ records) rest splits =
    omega (arith, ap length splits.3, length-append splits.0 splits.1, length_of_encoding r splits.0 splits.2, long_splits splits.1 records rest splits.4)

long_records : (bytes : List ℕ) (records : List (Record Definition)) → AreRecords bytes records → length bytes ≡ length_of records
long_records bytes records are = omega (arith, long_splits bytes records [] are)

long_more : (records : List (Record Definition)) (r : Record Definition) → length_of (records ++ r ∷ []) ≡ length_of records + length (spelling r)
unfolding length_of
long_more [] r = omega arith
long_more (x ∷ records) r = omega (arith, long_more records r)

-- ---- what a crash leaves

same_both : (a b : List ℕ) → IsPrefixOf a b → IsPrefixOf b a → a ≡ b
same_both a b a_begins b_begins =
    let none : a_begins.0 ≡ [] = nil_from_length a_begins.0 (omega (arith, ap length a_begins.1, ap length b_begins.1, length-append a a_begins.0, length-append b b_begins.0)) in
    sym (a_begins.1 ∙ ap (λ (t : List ℕ). a ++ t) none ∙ append-nil a)

-- What a crash leaves is an image of the tape.
crash_is_image : (left : TapeValue) (keep : ℕ) → IsImageNow left (take (left.synced + keep) left.bytes)
crash_is_image left keep = (
  begins_taken (left.synced + keep) left.bytes,
  subst (λ (t : List ℕ). IsPrefixOf t (take (left.synced + keep) left.bytes)) (take-take left.synced (left.synced + keep) left.bytes (omega arith)) (begins_taken left.synced (take (left.synced + keep) left.bytes)),
)

-- All bytes are synced: they are the only image.
only_image : (kept : TapeValue) → kept.synced ≡ length kept.bytes → (image : List ℕ) → IsImageNow kept image → image ≡ kept.bytes
only_image kept all image is =
    let whole : take kept.synced kept.bytes ≡ kept.bytes = take_all kept.synced kept.bytes (omega (arith, all)) in
    same_both image kept.bytes is.0 (subst (λ (t : List ℕ). IsPrefixOf t image) whole is.1)

-- ---- the node that is opened from it

-- it is the record's length that tells
not_longer : (long now : ℕ) → now ≡ long → nat_lt long now ≡ false
not_longer long now same = le-ltb long now (omega (arith, same))

is_longer : (long now more : ℕ) → now ≡ long + more → 0 < more → nat_lt long now ≡ true
is_longer long now more sum some = lt-ltb long now (omega (arith, sum, some))

module _ (long : ℕ) (r : Record Definition) (before after stored : DurableState Definition) (content cut now : List ℕ) (records found : List (Record Definition))
    (are : AreRecords content records) (is_long : length content ≡ long) (reads : ReadsAs cut found) (folds : fold found ≡ Some stored) (settled : AreRecords now found) where
  -- The record isn't there.
  kept_before : ReadsOn before content cut → stored ≡ stored_by (view_kept (kept_beyond long (length now))) before after
  kept_before on =
      let same : found ≡ records = read_one_way cut found on.records reads on.new ∙ read_one_way content on.records records on.old (whole_reads content records are) in
      let reports = not_longer long (length now) (long_records now found settled ∙ ap length_of same ∙ sym (long_records content records are) ∙ is_long) in
      let is : stored ≡ before = same_Some stored before (sym folds ∙ ap fold (read_one_way cut found on.records reads on.new) ∙ on.folds) in
      is ∙ sym (ap (λ (b : Bool). stored_by (view_kept (if b then declared.After else declared.Before)) before after) reports)

  -- It is there.
  kept_after : ReadsWith r after content cut → stored ≡ stored_by (view_kept (kept_beyond long (length now))) before after
  kept_after with_it =
      let more : found ≡ with_it.records ++ r ∷ [] = read_one_way cut found (with_it.records ++ r ∷ []) reads with_it.new in
      let same : with_it.records ≡ records = read_one_way content with_it.records records with_it.old (whole_reads content records are) in
      let sum : length now ≡ long + length (spelling r) =
      omega (arith, long_records now found settled, ap length_of more, long_more with_it.records r, ap length_of same, long_records content records are, is_long) in
      let reports = is_longer long (length now) (length (spelling r)) sum (some_bytes r) in
      let is : stored ≡ after = same_Some stored after (sym folds ∙ ap fold more ∙ with_it.folds) in
      is ∙ sym (ap (λ (b : Bool). stored_by (view_kept (if b then declared.After else declared.Before)) before after) reports)

-- The node that is opened after a crash has stored what its tape's length tells.
pub cut_opened : (long keep : ℕ) (entry : Option (Record Definition)) (before after stored : DurableState Definition) (left crashed now : TapeValue) → crashed.bytes ≡ take (left.synced + keep) left.bytes →
    crashed.synced ≡ length crashed.bytes → IsFoldOf stored crashed.bytes → Follows ReadsSame (IsImageNow crashed) (IsImageNow now) → IsSettled now.bytes (IsImageNow now) →
    IsCutTape long entry before after left → stored ≡ stored_by (view_kept (kept_beyond long (length now.bytes))) before after
cut_opened long keep None before after stored left crashed now taken all fold_of follows settled cut = absurd cut.cut
cut_opened long keep (Some r) before after stored left crashed now taken all fold_of follows settled cut =
    let reads : ReadsAs crashed.bytes fold_of.records = (fold_of.rest, fold_of.tape.reads) in
    let earlier = follows now.bytes settled.1.only.is_image in
    let came = subst (λ (t : List ℕ). ReadsSame t now.bytes) (only_image crashed all earlier.0 earlier.1) earlier.2 in
    let same : settled.0 ≡ fold_of.records = read_one_way now.bytes settled.0 fold_of.records (whole_reads now.bytes settled.0 settled.1.are_records) (came fold_of.records reads) in
    let are_now = subst (λ (rs : List (Record Definition)). AreRecords now.bytes rs) same settled.1.are_records in
    let is_cut = cut.cut crashed.bytes (subst (λ (t : List ℕ). IsImageNow left t) (sym taken) (crash_is_image left keep)) in
    elim is_cut.2 [
      | inl on ↦ kept_before long r before after stored cut.content crashed.bytes now.bytes cut.records fold_of.records cut.are_records cut.is_long reads fold_of.folds are_now
          (subst (λ (t : List ℕ). ReadsOn before t crashed.bytes) is_cut.1 on)
      | inr with_it ↦ kept_after long r before after stored cut.content crashed.bytes now.bytes cut.records fold_of.records cut.are_records cut.is_long reads fold_of.folds are_now
          (subst (λ (t : List ℕ). ReadsWith r after t crashed.bytes) is_cut.1 with_it)
    ]
