-- The headline for a farm: what its nodes publish under one sequence is one definition.
use Rattle.std.specs.Prelude.{◌≡◌, ℕ, List, slice_get, Option, Some, None}
use Rattle.wf_farm.specs.Common.{Definition, DurableState, definition_at, definition_eq, IsBeginning, World, Event, after, AllStandFor, stored_of, IsImageNow}
use Rattle.wf_farm.specs.declared.cluster.NodeHost.TheVariants.{Running, Stopped}
use Rattle.wf_farm.specs.Farm.{MemoryFarm, Refines, size}
use Rattle.wf_farm.specs.NodeHost.{MemoryHost}

-- the durable state of the node at an index, running or stopped
abbrev pub HasDurableState : Option MemoryHost → DurableState Definition → Type 0
HasDurableState None stored = ⊥
HasDurableState (Some (Running node)) stored = stored ≡ stored_of node
HasDurableState (Some (Stopped tape)) stored = AllStandFor stored (IsImageNow tape)

-- node i published this definition under sequence s
pub record Publishes (farm : MemoryFarm) (i s : ℕ) (d : Definition) : Type 0 where
  pub stored : DurableState Definition
  pub has : HasDurableState (slice_get farm.hosts i) stored
  pub entry : definition_at stored.history s ≡ Some d

-- no two nodes publish different definitions under one sequence
unfoldable pub HasNoTwoDefinitions : MemoryFarm → Type 0
HasNoTwoDefinitions farm = (i j s : ℕ) (c d : Definition) → Publishes farm i s c → Publishes farm j s d → c ≡ d

-- For each entry, running or stopped, the published list before is a prefix of the one afterwards.
unfoldable pub HistoriesGrow : MemoryFarm → MemoryFarm → Type 0
HistoriesGrow before after = (i : ℕ) (old new : DurableState Definition) → HasDurableState (slice_get before.hosts i) old → HasDurableState (slice_get after.hosts i) new → IsBeginning old.history new.history

-- The farm is exactly one world, and some events lead to it from the start.
pub record IsOneWorld (farm : MemoryFarm) : Type 0 where
  pub the_world : World Definition
  pub shown : Refines farm the_world
  pub no_other : (w : World Definition) → Refines farm w → w ≡ the_world
  pub events : List (Event Definition)
  pub reached : the_world ≡ after definition_eq (size farm) events
