-- The model of a history, and the effect of a chosen definition on it.
use Rattle.std.specs.Prelude.{◌≡◌, ℕ, zero, suc, ◌+◌, ◌≤◌, Bool, true, nat_lt, ◌==◌, if◌then◌else◌, List, [], ◌∷◌, ◌++◌, length, Option, Some}
use Rattle.wf_ballot.specs.Sequence.{last_sequence}
use Rattle.wf_def.specs.Definition.{Definition, empty_map}
use Rattle.wf_model.specs.Message as model
use Rattle.wf_model.specs.DurableState.{DurableState, definition_at}
use Rattle.wf_model.specs.VolatileState.{VolatileState}
use Rattle.wf_model.specs.Table.{store, on_chosen}
use Rattle.wf_learner.specs.declared.history.Learned.{Learned}
use Rattle.wf_learner.specs.declared.history.Learned.TheVariants.{Published, Known, Missing}

-- Its definitions, sequence 1 first, and whether there is room for one more. Only contracts about
-- memory use the second.
pub record History : Type 0 where
  pub definitions : List Definition
  pub has_room : Bool

-- what holds of each history
pub record IsHistory (first : Definition) (definitions : List Definition) : Type 0 where
  pub is_empty : first ≡ empty_map
  pub to_last : length definitions ≤ last_sequence

-- there is room for one more definition
abbrev pub HasRoom : History → Type 0
HasRoom h = h.has_room ≡ true

-- the map of a sequence: the empty one at 0, None above the published ones
unfoldable pub map_at : List Definition → ℕ → Option Definition
map_at definitions zero = Some empty_map
map_at definitions (suc k) = definition_at definitions (suc k)

-- the next sequence
abbrev pub next_of : List Definition → ℕ
next_of definitions = length definitions + 1

-- the result of learning a definition that is chosen at slot s
abbrev pub learned_at : List Definition → ℕ → Learned
learned_at definitions s =
    if s == next_of definitions then Published
    else (if nat_lt (next_of definitions) s then Missing (next_of definitions) else Known)

-- the definitions after that: one more if its slot is the next
abbrev pub with_chosen : List Definition → ℕ → Definition → List Definition
with_chosen definitions s d = if s == next_of definitions then definitions ++ d ∷ [] else definitions

-- the Ask for the slot that is missing, if one is
abbrev pub asked : Learned → List (model.Message Definition)
asked Published = []
asked Known = []
asked (Missing s) = model.Ask s ∷ []

-- The table's transition of a Chosen, at a node with the old history, whatever its other state and
-- the test of equal definitions: it leaves the new history, and asks for the slot that is missing.
pub record IsChosenTransition (old : List Definition) (s : ℕ) (d : Definition) (new : List Definition) (learned : Learned) : Type 0 where
  pub history : (same : Definition → Definition → Bool) (stored : DurableState Definition) (volatile : VolatileState Definition) → stored.history ≡ old →
      (store stored (on_chosen same stored volatile s d).entry).history ≡ new
  pub asks : (same : Definition → Definition → Bool) (stored : DurableState Definition) (volatile : VolatileState Definition) → stored.history ≡ old →
      (on_chosen same stored volatile s d).messages ≡ asked learned
