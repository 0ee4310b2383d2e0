-- The answers of a farm's nodes to clients of the web map service.
use Rattle.std.specs.Prelude.{◌≡◌, ℕ, List, length, slice_get, Option, Some, None}
use Rattle.wf_farm.specs.Common.{Node, TapeValue, AnswerValue, AsksForMap, IsAnswerOf}
use Rattle.wf_farm.specs.declared.fault.FarmFault.{FarmFault}
use Rattle.wf_farm.specs.declared.fault.FarmFault.TheVariants.{Memory, NoNode}
use Rattle.wf_farm.specs.Farm.{MemoryFarm, running_in}

-- the last sequence that a node published
abbrev pub sequence_in : Option (Node TapeValue) → ℕ
sequence_in None = 0
sequence_in (Some node) = length node.parts.history

-- the last sequence that node i published, if it runs
abbrev pub sequence_at : MemoryFarm → ℕ → ℕ
sequence_at farm i = sequence_in (running_in (slice_get farm.hosts i))

-- Node i runs, s is the last sequence that it published, and this is the answer to the query at s,
-- from what it published.
pub record NodeAnswers (farm : MemoryFarm) (i s : ℕ) (query : List ℕ) (answer : AnswerValue) : Type 0 where
  pub node : Node TapeValue
  pub runs : running_in (slice_get farm.hosts i) ≡ Some node
  pub stands : length node.parts.history ≡ s
  pub is_answer : IsAnswerOf s node.parts.history query answer

-- Nodes with the same last published sequence have one answer to a query: the same kind, media type
-- and bytes.
unfoldable pub HasOneAnswer : MemoryFarm → Type 0
HasOneAnswer farm = (i j s : ℕ) (query : List ℕ) (answer another : AnswerValue) → NodeAnswers farm i s query answer → NodeAnswers farm j s query another → another ≡ answer

-- Nodes that a query asks for the same map have one answer to it, whatever their last published
-- sequences.
unfoldable pub HasOneMapAnswer : MemoryFarm → Type 0
HasOneMapAnswer farm = (i j s t m : ℕ) (query : List ℕ) (answer another : AnswerValue) → AsksForMap m s query → AsksForMap m t query →
    NodeAnswers farm i s query answer → NodeAnswers farm j t query another → another ≡ answer

-- why no node answers: none runs there, or an allocation failed before anything was done
abbrev pub IsNoAnswer : Option (Node TapeValue) → FarmFault → Type 0
IsNoAnswer None fault = fault ≡ NoNode
IsNoAnswer (Some node) fault = fault ≡ Memory 0
