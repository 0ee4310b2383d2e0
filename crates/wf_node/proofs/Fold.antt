-- A record appended to a list is folded last.
use Rattle.std.proofs.Common.{◌≡◌, ◌⊎◌, ℕ, Bool, true, false, List, [], ◌∷◌, ◌++◌, Some, None, if◌then◌else◌, refl, sym, subst, inl, inr}
use Rattle.std.proofs.lemmas.Option.{none-some, same_Some}
use Rattle.wf_def.specs.Definition.{Definition}
use Rattle.wf_model.specs.DurableState.{DurableState, Record, fits, with_record, fold_from, fold, nothing_stored}
use Rattle.wf_model.specs.Table.{store}
use Rattle.wf_journal.specs.Journal.{Follows, ReadsOneMore, ReadsSameOrOneMore}
use Rattle.wf_node.specs.Images.{StandsFor, ReadsOn, ReadsWith}
use Rattle.wf_node.specs.TapeWrites.{IsStoredBy, IsTornAt, IsCutAt}

fold_from_more : (start stored : DurableState Definition) (records : List (Record Definition)) (r : Record Definition) →
    fold_from start records ≡ Some stored → fits stored r ≡ true → fold_from start (records ++ r ∷ []) ≡ Some (with_record stored r)
unfolding fold_from
fold_from_more start stored [] r folds fit =
    let At : DurableState Definition → Type 0 = λ s. (if fits s r then Some (with_record s r) else None) ≡ Some (with_record stored r) in
    subst At (sym (same_Some start stored folds)) (subst (λ (b : Bool). (if b then Some (with_record stored r) else None) ≡ Some (with_record stored r)) (sym fit) refl)
fold_from_more start stored (x ∷ records) r folds fit =
    elim (fits start x) as (λ b. (if b then fold_from (with_record start x) records else None) ≡ Some stored →
    (if b then fold_from (with_record start x) (records ++ r ∷ []) else None) ≡ Some (with_record stored r)) [
      | true ↦ λ e. fold_from_more (with_record start x) stored records r e fit
      | false ↦ λ e. absurd (none-some _ e)
    ] folds

pub fold_more : (stored : DurableState Definition) (records : List (Record Definition)) (r : Record Definition) →
    fold records ≡ Some stored → fits stored r ≡ true → fold (records ++ r ∷ []) ≡ Some (with_record stored r)
unfolding fold
fold_more stored records r folds fit = fold_from_more nothing_stored stored records r folds fit

stands_more : (stored : DurableState Definition) (r : Record Definition) (earlier image : List ℕ) → ReadsOneMore r earlier image → fits stored r ≡ true →
    StandsFor stored earlier → StandsFor (with_record stored r) image
stands_more stored r earlier image more fit stands = record {
  records = stands.records ++ r ∷ [];
  reads = more stands.records stands.reads;
  folds = fold_more stored stands.records r stands.folds fit;
}

-- an image that reads as the records from before, or as those and one more
stands_either : (stored : DurableState Definition) (r : Record Definition) (earlier image : List ℕ) → ReadsSameOrOneMore r earlier image → fits stored r ≡ true →
    StandsFor stored earlier → StandsFor stored image ⊎ StandsFor (with_record stored r) image
stands_either stored r earlier image either fit stands =
    elim (either stands.records stands.reads) as (λ x. StandsFor stored image ⊎ StandsFor (with_record stored r) image) [
      | inl same ↦ inl (record { records = stands.records; reads = same; folds = stands.folds })
      | inr more ↦ inr (record {
        records = stands.records ++ r ∷ [];
        reads = more;
        folds = fold_more stored stands.records r stands.folds fit;
      })
    ]

pub stored_by : (r : Record Definition) (old new : List ℕ → Type 0) → Follows (ReadsOneMore r) old new → IsStoredBy (Some r) old new
unfolding store
stored_by r old new follows stored fit stands image is =
    let earlier = follows image is in
    stands_more stored r earlier.0 image earlier.2 fit (stands earlier.0 earlier.1)

pub torn_at : (r : Record Definition) (old new : List ℕ → Type 0) → Follows (ReadsSameOrOneMore r) old new → IsTornAt (Some r) old new
unfolding store
torn_at r old new follows stored fit stands image is =
    let earlier = follows image is in
    stands_either stored r earlier.0 image earlier.2 fit (stands earlier.0 earlier.1)

-- the records that it reads as are those from before, or those and one more
cut_either : (stored : DurableState Definition) (r : Record Definition) (earlier image : List ℕ) → ReadsSameOrOneMore r earlier image → fits stored r ≡ true →
    StandsFor stored earlier → ReadsOn stored earlier image ⊎ ReadsWith r (with_record stored r) earlier image
cut_either stored r earlier image either fit stands =
    elim (either stands.records stands.reads) as (λ x. ReadsOn stored earlier image ⊎ ReadsWith r (with_record stored r) earlier image) [
      | inl same ↦ inl (record { records = stands.records; old = stands.reads; new = same; folds = stands.folds })
      | inr more ↦ inr (record { records = stands.records; old = stands.reads; new = more; folds = fold_more stored stands.records r stands.folds fit })
    ]

pub cut_at : (r : Record Definition) (old new : List ℕ → Type 0) → Follows (ReadsSameOrOneMore r) old new → IsCutAt (Some r) old new
unfolding store
cut_at r old new follows stored fit stands image is =
    let earlier = follows image is in
    (earlier.0, earlier.1, cut_either stored r earlier.0 image earlier.2 fit (stands earlier.0 earlier.1))

-- if nothing is written, nothing changes
pub stored_none : (images : List ℕ → Type 0) → IsStoredBy None images images
unfolding store
stored_none images stored fit stands = stands
