-- Images of a tape and the durable states that they stand for.
use Rattle.std.specs.Prelude.{◌≡◌, ◌⊎◌, ℕ, List, [], ◌∷◌, ◌++◌, Option, Some, None}
use Rattle.wf_def.specs.Definition.{Definition}
use Rattle.wf_model.specs.DurableState.{DurableState, Record, fold}
use Rattle.wf_journal.specs.Records.{ReadsAs}

-- the bytes read as records that fold to this
pub record StandsFor (stored : DurableState Definition) (bytes : List ℕ) : Type 0 where
  pub records : List (Record Definition)
  pub reads : ReadsAs bytes records
  pub folds : fold records ≡ Some stored

-- each image stands for this
abbrev pub AllStandFor : DurableState Definition → (List ℕ → Type 0) → Type 0
AllStandFor stored images = (image : List ℕ) → images image → StandsFor stored image

-- each image stands for one or the other
abbrev pub EachStandsFor : DurableState Definition → DurableState Definition → (List ℕ → Type 0) → Type 0
EachStandsFor before after images = (image : List ℕ) → images image → StandsFor before image ⊎ StandsFor after image

-- The image reads as the records of an earlier one, and stands for this.
pub record ReadsOn (stored : DurableState Definition) (earlier image : List ℕ) : Type 0 where
  pub records : List (Record Definition)
  pub old : ReadsAs earlier records
  pub new : ReadsAs image records
  pub folds : fold records ≡ Some stored

-- The image reads as the records of an earlier one with one more, and stands for this.
pub record ReadsWith (r : Record Definition) (stored : DurableState Definition) (earlier image : List ℕ) : Type 0 where
  pub records : List (Record Definition)
  pub old : ReadsAs earlier records
  pub new : ReadsAs image (records ++ r ∷ [])
  pub folds : fold (records ++ r ∷ []) ≡ Some stored

-- There is a record. Each image reads as the records of an earlier one, and stands for the first;
-- or with that record as one more, and stands for the second.
abbrev pub EachIsCut : Option (Record Definition) → DurableState Definition → DurableState Definition → (List ℕ → Type 0) → (List ℕ → Type 0) → Type 0
EachIsCut None before after old new = ⊥
EachIsCut (Some r) before after old new = (image : List ℕ) → new image → (earlier : List ℕ) × old earlier × (ReadsOn before earlier image ⊎ ReadsWith r after earlier image)
