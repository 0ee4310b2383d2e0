-- What two nodes of a farm answer to one query, compared.
use Rattle.std.specs.Prelude.{◌≡◌, ◌⊎◌, ◌&&◌, ℕ, Bool, true, List, bytes_eq}
use Rattle.wf_wms.specs.Answer.{AnswerValue, AsksForMap}
use Rattle.wf_wms.specs.declared.response.Kind.{Kind}
use Rattle.wf_wms.specs.contracts.response.KindPartialEq.TheImpl as kinds
use Rattle.wf_farm.specs.ClientAnswers.{NodeAnswers, IsNoAnswer, sequence_at}
use Rattle.wf_farm.specs.Farm.{MemoryFarm}
use Rattle.wf_farm.specs.declared.fault.FarmFault.{FarmFault}
use Rattle.wf_play.specs.Session.{node_at}

-- whether two answers are of one kind, as a test
unfoldable pub is_same_kind : Kind → Kind → Bool
is_same_kind a b = (kinds.ghosts).eq a b

-- whether two answers are equal, as a test: in their kind, their media type and their bytes
unfoldable pub is_same_answer : AnswerValue → AnswerValue → Bool
is_same_answer a b = is_same_kind a.kind b.kind && bytes_eq a.media b.media && bytes_eq a.bytes b.bytes

-- The nodes i and j answer the query with these two answers, and the test is true iff they are
-- equal.
pub record Compares (farm : MemoryFarm) (i j : ℕ) (query : List ℕ) (equal : Bool) : Type 0 where
  pub answer : AnswerValue
  pub another : AnswerValue
  pub first : NodeAnswers farm i (sequence_at farm i) query answer
  pub second : NodeAnswers farm j (sequence_at farm j) query another
  pub test : equal ≡ is_same_answer answer another

-- The test is true where the nodes i and j are at one sequence, and where the query asks both for
-- one map.
pub record IsTrueWhereOne (farm : MemoryFarm) (i j : ℕ) (query : List ℕ) (equal : Bool) : Type 0 where
  pub one_sequence : sequence_at farm i ≡ sequence_at farm j → equal ≡ true
  pub one_map : (m : ℕ) → AsksForMap m (sequence_at farm i) query → AsksForMap m (sequence_at farm j) query → equal ≡ true

-- why answers aren't compared: one of the nodes returns none
abbrev pub IsUncompared : MemoryFarm → ℕ → ℕ → FarmFault → Type 0
IsUncompared farm i j fault = IsNoAnswer (node_at farm i) fault ⊎ IsNoAnswer (node_at farm j) fault
