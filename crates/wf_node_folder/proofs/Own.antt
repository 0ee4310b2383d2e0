-- The records of a tape, and what holds of each of them.
use Rattle.std.proofs.Common.{◌≡◌, ◌∙◌, ◌<◌, ◌≤◌, ◌+◌, ℕ, List, length, map, get_or, below_more, subst, sym, ap, arith, inl, inr, refl}
use Rattle.std.specs.Prelude.{Some, None, Result, Ok, Err, IfErr, option_map, slice_get}
use Rattle.std.proofs.lemmas.Option.{slice_get-map, slice_get_read, slice_get_within}
use Rattle.std.proofs.lemmas.List.{length-map}
use Rattle.wf_def.specs.Definition.{Definition}
use Rattle.wf_journal.proofs.Lists.{whole_reads}
use Rattle.wf_journal.specs.Journal.{IsWhereBad}
use Rattle.wf_journal.specs.Records.{AreReadOneWay, AreRecords, IsTapeOf}
use Rattle.wf_journal.specs.declared.open_error.OpenFault.{OpenFault}
use Rattle.wf_journal.specs.declared.open_error.OpenFault.TheVariants.{TapeFailed, BadRecord, Memory}
use Rattle.wf_model.specs.DurableState.{DurableState, Record, fold}
use Rattle.wf_node.specs.OpenedNode.{IsFoldOf, IsUnfitAt, IsWhyBad}
use Rattle.wf_node_folder.specs.Damage.{AreBadNowhere}
use Rattle.wf_node_folder.specs.From.{AllCanBeOf, CanBeRecordsOf, HasUntried, IsFromFault, IsRecordsFault, IsTapeFault, IsUntriedIn, from_fault_of}
use Rattle.wf_node_folder.specs.declared.fault.CommandFault.{CommandFault}
use Rattle.wf_node_folder.specs.declared.fault.CommandFault.TheVariants as faults
use Rattle.wf_node_folder.specs.declared.from_rejection.FromRejection.TheVariants as causes

module _ {A B : Type 0} (view : A → B) (P : B → Type 0) (xs : List A) where
  -- of each before an item and of that item: of each before the next one
  pub up_to_next : (i : ℕ) (item : A) → i < length xs → item ≡ get_or xs i item → P (view item) → ((k : ℕ) (b : B) → k < i → slice_get (map view xs) k ≡ Some b → P b)
      → (k : ℕ) (b : B) → k < i + 1 → slice_get (map view xs) k ≡ Some b → P b
  up_to_next i item within is holds before k b below_next at =
      let here : slice_get xs i ≡ Some item = slice_get_read xs (length xs) i item refl within is in
      let shown : slice_get (map view xs) i ≡ Some (view item) = slice_get-map view xs i ∙ ap (option_map view) here in
      below_more (λ j. (x : B) → slice_get (map view xs) j ≡ Some x → P x) i (λ j below x seen. before j x below seen)
      (λ x seen. let same : Some (view item) ≡ Some x = sym shown ∙ seen in let one : view item ≡ x = cc in subst P one holds)
      k below_next b at

  -- of each up to their end: of all
  pub up_to_end : (i : ℕ) → length xs ≤ i → ((k : ℕ) (b : B) → k < i → slice_get (map view xs) k ≡ Some b → P b)
      → (k : ℕ) (b : B) → slice_get (map view xs) k ≡ Some b → P b
  up_to_end i all each k b at =
      let within : k < length (map view xs) = slice_get_within (map view xs) k b at in
      each k b (omega (arith, within, all, length-map xs view)) at

-- a node opened on these records alone, which can be its own or not
folds_of : AreReadOneWay → (content : List ℕ) (records : List (Record Definition)) (stored : DurableState Definition) → AreRecords content records → IsFoldOf stored content → fold records ≡ Some stored
folds_of one_way content records stored are is =
    let same : records ≡ is.records = one_way content records is.records (whole_reads content records are) (is.rest, is.tape.reads) in
    ap (λ (rs : List (Record Definition)). fold rs) same ∙ is.folds

module _ (one_way : AreReadOneWay) (content : List ℕ) (records : List (Record Definition)) (stored : DurableState Definition) (are : AreRecords content records) (is : IsFoldOf stored content)
    (id tried : ℕ) (same : tried ≡ stored.tried) where
  pub can_be : AllCanBeOf id tried records → CanBeRecordsOf id records
  can_be all = record { stored = stored; folds = folds_of one_way content records stored are is; own = subst (λ (t : ℕ). AllCanBeOf id t records) same all }

  pub cannot_be : (round : ℕ) → IsUntriedIn id tried round records → HasUntried id records round tried
  cannot_be round untried = record { stored = stored; folds = folds_of one_way content records stored are is; is_tried = sym same; is_in = untried }

-- ---- why no node opens

-- no journal opened on the bytes
pub bad_bytes : (id : ℕ) (bytes : List ℕ) (why : OpenFault) (fault : CommandFault) → fault ≡ from_fault_of why → IsWhereBad why bytes → IsTapeFault id bytes fault
bad_bytes id bytes TapeFailed fault is bad = subst (IsTapeFault id bytes) (sym is) tt
bad_bytes id bytes (BadRecord offset) fault is bad = subst (IsTapeFault id bytes) (sym is) (inl bad)
bad_bytes id bytes Memory fault is bad = subst (IsTapeFault id bytes) (sym is) tt

-- no node did on a tape that has the records alone
pub bad_records : AreReadOneWay → AreBadNowhere → (id : ℕ) (content : List ℕ) (records : List (Record Definition)) (why : OpenFault) (fault : CommandFault) → AreRecords content records
    → fault ≡ from_fault_of why → IsWhyBad why content → IsRecordsFault id records fault
bad_records one_way nowhere id content records TapeFailed fault are is bad = subst (IsRecordsFault id records) (sym is) tt
bad_records one_way nowhere id content records (BadRecord offset) fault are is bad = subst (IsRecordsFault id records) (sym is) (elim bad [
  | inl there ↦ absurd (nowhere content offset (records, are) there)
  | inr none ↦
      let same : none.records ≡ records = one_way content none.records records none.reads (whole_reads content records are) in
      subst (λ (rs : List (Record Definition)). (fold rs ≡ None) × IsUnfitAt rs offset) same (none.none, none.unfit)
])
bad_records one_way nowhere id content records Memory fault are is bad = subst (IsRecordsFault id records) (sym is) tt

-- what the records are rejected for, the bytes are
fault_of_records : (id : ℕ) (bytes rest : List ℕ) (records : List (Record Definition)) (fault : CommandFault) → IsTapeOf bytes records rest → IsRecordsFault id records fault → IsTapeFault id bytes fault
fault_of_records id bytes rest records (faults.FromRejected (causes.Untried round tried)) tape is = record { records = records; rest = rest; tape = tape; cannot_be = is }
fault_of_records id bytes rest records (faults.FromBad offset) tape is = inr (record { records = records; reads = (rest, tape.reads); none = is.0; unfit = is.1 })
fault_of_records id bytes rest records faults.Memory tape is = tt
fault_of_records id bytes rest records fault tape is = absurd is

pub tape_fault : (id : ℕ) (bytes rest : List ℕ) (records : List (Record Definition)) (result : Result (Unit {0}) CommandFault) → IsTapeOf bytes records rest → IfErr result (IsRecordsFault id records)
    → IfErr result (IsTapeFault id bytes)
tape_fault id bytes rest records (Ok done) tape is = tt
tape_fault id bytes rest records (Err fault) tape is = fault_of_records id bytes rest records fault tape is

-- and the tape of `--from`
pub not_from : (from : List ℕ) (id n : ℕ) (bytes : List ℕ) (fault : CommandFault) → IsTapeFault id bytes fault → IsFromFault from id n fault
not_from from id n bytes (faults.FromRejected (causes.Untried round tried)) is = (bytes, is)
not_from from id n bytes (faults.FromBad offset) is = (bytes, is)
not_from from id n bytes faults.Memory is = tt
not_from from id n bytes fault is = absurd is
