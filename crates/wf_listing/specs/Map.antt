-- A map that a tape has as published.
use Rattle.std.specs.Prelude.{◌≡◌, ℕ, ◌==◌, List, [], ◌∷◌, Option, Some, None, Vec, if◌then◌else◌, option_map}
use Rattle.std.specs.declared.alloc.Global.{Global}
use Rattle.wf_def.specs.Definition.{Definition}
use Rattle.wf_journal.specs.Records.{Reads}
use Rattle.wf_model.specs.DurableState.{Record, Published}
use Rattle.wf_spelling.specs.Canon.{canon}

-- the map of a record that publishes one under this sequence
abbrev pub published_by : ℕ → Record Definition → Option Definition
published_by sequence (Published s d) = if s == sequence then Some d else None
published_by sequence r = None

-- the first one there is
abbrev pub first_or : Option Definition → Option Definition → Option Definition
first_or (Some d) rest = Some d
first_or None rest = rest

-- the map of the first record that publishes one under this sequence
unfoldable pub published_in : ℕ → List (Record Definition) → Option Definition
published_in sequence [] = None
published_in sequence (r ∷ records) = first_or (published_by sequence r) (published_in sequence records)

-- The text is that of the map that the bytes have as published under the sequence; none if they
-- have none.
pub record IsMapTextAt (bytes : List ℕ) (sequence : ℕ) (text : Option (Vec ℕ Global)) : Type 0 where
  -- all the whole records that the bytes begin with, and the bytes after them
  pub records : List (Record Definition)
  pub left : List ℕ
  pub reads : Reads bytes records left
  pub is : option_map (λ t. t.items) text ≡ option_map canon (published_in sequence records)
