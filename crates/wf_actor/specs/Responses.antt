-- Processes of a farm respond alike: whole HTTP responses.
use Rattle.std.specs.Prelude.{◌≡◌, ◌≢◌, ℕ, List, length, Some, Vec}
use Rattle.std.specs.declared.alloc.Global.{Global}
use Rattle.wf_execution.specs.Execution.{Execution, Item, IsFarm}
use Rattle.wf_execution.specs.Theorems.{IsHeld}
use Rattle.wf_codec.specs.declared.message.Message.{Message}
use Rattle.wf_def.specs.Definition.{Definition}
use Rattle.wf_edge.specs.Theorem.{AsksMapService}
use Rattle.wf_edge.specs.RequestEffect.{Responds}
use Rattle.wf_http.specs.Response.{Response, response_bytes}
use Rattle.wf_node.specs.Node.{Node}
use Rattle.wf_tape.specs.declared.tape.Tape.{Ghosts as Tape}
use Rattle.wf_wms.specs.Answer.{AsksForMap}

-- The lists of published maps are equally long; or the query asks both for the map of one sequence,
-- however long either is.
pub data AskedAlike (query : List ℕ) (history other : List Definition) : Type 0 where
  AtOneSequence : length other ≡ length history → AskedAlike query history other
  ForOneMap : (m : ℕ) → AsksForMap m (length history) query → AsksForMap m (length other) query → AskedAlike query history other

-- Two processes, or one at two moments, that receive equal requests to the map service respond with
-- equal bytes, whatever comes after the request, if neither responds that an allocation failed
-- (503).
abbrev pub ProcessesRespondAlike : {T : Type 0} → Tape T → Type 0
ProcessesRespondAlike {T} tapes = (n : ℕ) (executions : ℕ → Execution T) (items : List Item) → IsFarm tapes n executions items →
    (node other : Node T) → IsHeld n executions node → IsHeld n executions other → (input query : List ℕ) (after other_after : Node T) (sent other_sent : Vec Message Global) (response another : Response) →
    AsksMapService input query → AskedAlike query node.parts.history other.parts.history →
    Responds tapes (Some input) node response sent after → response.status ≢ 503 →
    Responds tapes (Some input) other another other_sent other_after → another.status ≢ 503 →
    response_bytes another ≡ response_bytes response
