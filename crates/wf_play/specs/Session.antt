-- A script that is played on a farm.
use Rattle.std.specs.Prelude.{◌≡◌, ◌⊎◌, ℕ, List, Option, slice_get}
use Rattle.wf_def.specs.Definition.{Definition}
use Rattle.wf_model.specs.World.{Event}
use Rattle.wf_node.specs.Node.{Node}
use Rattle.wf_tape.specs.MemoryTape.{TapeValue}
use Rattle.wf_farm.specs.Agreement.{HistoriesGrow, Publishes}
use Rattle.wf_farm.specs.Farm.{MemoryFarm, Runs, running_in, size}
use Rattle.wf_script.specs.Script.{Script}

-- The script, and the farm after its orders so far.
pub record Session : Type 0 where
  pub script : Script
  pub farm : MemoryFarm

-- The farm has made some events of the model. Its nodes are as they were, or the list that each had
-- published is a prefix of the list that it has published now.
pub record Plays (before after : MemoryFarm) : Type 0 where
  pub events : List (Event Definition)
  pub runs : Runs events before after
  pub size : size after ≡ size before
  pub grows : (after.hosts ≡ before.hosts) ⊎ HistoriesGrow before after

-- node i, if it runs
abbrev pub node_at : MemoryFarm → ℕ → Option (Node TapeValue)
node_at farm i = running_in (slice_get farm.hosts i)

-- some node publishes this definition under sequence s
abbrev pub IsPublishedInFarm : MemoryFarm → ℕ → Definition → Type 0
IsPublishedInFarm farm s d = (i : ℕ) × Publishes farm i s d
