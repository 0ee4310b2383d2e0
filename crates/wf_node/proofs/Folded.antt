-- Records are folded one after the other, and if one doesn't fit there is no fold.
use Rattle.std.proofs.Common.{◌≡◌, ℕ, ◌+◌, ◌<◌, ◌^◌, true, false, List, [], ◌∷◌, ◌++◌, map, length, Some, None, if◌then◌else◌, refl, sym, ap, ◌∙◌, append_assoc, arith}
use Rattle.std.proofs.lemmas.List.{append-nil, map-append}
use Rattle.std.proofs.lemmas.Option.{none-some, same_Some}
use Rattle.wf_def.specs.Definition.{Definition}
use Rattle.wf_model.specs.DurableState.{DurableState, Record, fits, with_record, fold_from, fold, nothing_stored}
use Rattle.wf_journal.specs.Record.{view}
use Rattle.wf_journal.specs.Encoding.{spelling}
use Rattle.wf_journal.specs.Records.{length_of}
use Rattle.wf_journal.specs.declared.record.Record as code
use Rattle.wf_journal.specs.declared.open_error.OpenFault.{OpenFault}
use Rattle.wf_journal.specs.declared.open_error.OpenFault.TheVariants.{TapeFailed, BadRecord, Memory}
use Rattle.wf_node.specs.OpenedNode.{IsUnfitAt, IsApplied, IsWhyRecordRejected, IsWhyUnfolded}
use Rattle.wf_node.proofs.Fold.{fold_more}

-- The fold of the records applied so far, the byte offset of the next one, and those that remain.
pub record HasTaken (stored : DurableState Definition) (index : ℕ) (taken left all : List code.Record) : Type 0 where
  pub folds : fold (map view taken) ≡ Some stored
  pub stands : length_of (map view taken) ≡ index
  pub parts : taken ++ left ≡ all

pub none_taken : (stored : DurableState Definition) (left all : List code.Record) → stored ≡ nothing_stored → left ≡ all → HasTaken stored 0 [] left all
unfolding fold fold_from length_of
none_taken stored left all nothing whole = record { folds = ap Some (sym nothing); stands = refl; parts = whole }

length_of-append : (xs ys : List (Record Definition)) → length_of (xs ++ ys) ≡ length_of xs + length_of ys
unfolding length_of
length_of-append [] ys = omega arith
length_of-append (r ∷ xs) ys = omega (arith, length_of-append xs ys)

length_of-one : (r : Record Definition) → length_of (r ∷ []) ≡ length (spelling r)
unfolding length_of
length_of-one r = omega arith

length_of-first : (r : Record Definition) (rest : List (Record Definition)) → length_of (r ∷ rest) ≡ length (spelling r) + length_of rest
unfolding length_of
length_of-first r rest = refl

-- One more record is applied.
pub taken_more : (old new : DurableState Definition) (index next : ℕ) (taken left rest all : List code.Record) (entry : code.Record) → HasTaken old index taken left all → left ≡ entry ∷ rest →
    IsApplied old (view entry) index new next → HasTaken new next (taken ++ entry ∷ []) rest all
taken_more old new index next taken left rest all entry has is one =
    let records : map view (taken ++ entry ∷ []) ≡ map view taken ++ view entry ∷ [] = map-append view taken (entry ∷ []) in
    record {
      folds = ap fold records ∙ fold_more old (map view taken) (view entry) has.folds one.fit ∙ ap Some (sym one.applied);
      stands = omega (arith, ap length_of records, length_of-append (map view taken) (view entry ∷ []), length_of-one (view entry), has.stands, one.behind);
      parts = append_assoc taken (entry ∷ []) rest ∙ ap (λ (t : List code.Record). taken ++ t) (sym is) ∙ has.parts;
    }

-- All are applied.
pub all_taken : (stored : DurableState Definition) (index : ℕ) (taken left all : List code.Record) → HasTaken stored index taken left all → left ≡ [] → fold (map view all) ≡ Some stored
all_taken stored index taken left all has none =
    let whole : taken ≡ all = sym (append-nil taken) ∙ ap (λ (t : List code.Record). taken ++ t) (sym none) ∙ has.parts in
    ap (λ (t : List code.Record). fold (map view t)) (sym whole) ∙ has.folds

-- the records, split before the next one
parted : (stored : DurableState Definition) (index : ℕ) (taken left rest all : List code.Record) (entry : code.Record) → HasTaken stored index taken left all → left ≡ entry ∷ rest →
    map view all ≡ map view taken ++ view entry ∷ map view rest
parted stored index taken left rest all entry has is =
    ap (map view) (sym has.parts ∙ ap (λ (t : List code.Record). taken ++ t) is) ∙ map-append view taken (entry ∷ rest)

-- The byte offset after the next record is below 2 ^ 64 if the length of all is.
pub room_there : (stored : DurableState Definition) (index : ℕ) (taken left rest all : List code.Record) (entry : code.Record) → HasTaken stored index taken left all → left ≡ entry ∷ rest →
    length_of (map view all) < 2 ^ 64 → index + length (spelling (view entry)) < 2 ^ 64
room_there stored index taken left rest all entry has is short =
    omega (
      arith,
      has.stands,
      ap length_of (parted stored index taken left rest all entry has is),
      length_of-append (map view taken) (view entry ∷ map view rest),
      length_of-first (view entry) (map view rest),
    )

-- If one isn't applied, the records aren't folded.
pub why_unfolded : (stored : DurableState Definition) (index : ℕ) (taken left rest all : List code.Record) (entry : code.Record) (fault : OpenFault) → HasTaken stored index taken left all →
    left ≡ entry ∷ rest → IsWhyRecordRejected stored (view entry) index fault → IsWhyUnfolded (map view all) fault
why_unfolded stored index taken left rest all entry TapeFailed has is why = why
why_unfolded stored index taken left rest all entry (BadRecord there) has is why = record {
  before = map view taken;
  unfit = view entry;
  after = map view rest;
  parts = parted stored index taken left rest all entry has is;
  stands = has.stands ∙ sym why.0;
  stored = stored;
  folds = has.folds;
  no_fit = why.1;
}
why_unfolded stored index taken left rest all entry Memory has is why = tt

-- ---- no fold

stops_from : (start stored : DurableState Definition) (before after : List (Record Definition)) (r : Record Definition) →
    fold_from start before ≡ Some stored → fits stored r ≡ false → fold_from start (before ++ r ∷ after) ≡ None
unfolding fold_from
stops_from start stored [] after r folds no_fit =
    let same : fits start r ≡ false = ap (λ (s : DurableState Definition). fits s r) (same_Some start stored folds) ∙ no_fit in
    rw same refl
stops_from start stored (x ∷ before) after r folds no_fit =
    elim (fits start x) as (λ b. (if b then fold_from (with_record start x) before else None) ≡ Some stored →
    (if b then fold_from (with_record start x) (before ++ r ∷ after) else None) ≡ None) [
      | true ↦ λ e. stops_from (with_record start x) stored before after r e no_fit
      | false ↦ λ e. absurd (none-some stored e)
    ] folds

-- If a record doesn't fit, there is no fold.
pub none_where_unfit : (records : List (Record Definition)) (index : ℕ) → IsUnfitAt records index → fold records ≡ None
unfolding fold
none_where_unfit records index unfit = ap (fold_from nothing_stored) unfit.parts ∙ stops_from nothing_stored unfit.stored unfit.before unfit.after unfit.unfit unfit.folds unfit.no_fit
