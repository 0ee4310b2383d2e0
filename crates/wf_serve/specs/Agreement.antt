-- What holds of nodes that events of the model led to: one history, and equal responses.
use Rattle.std.specs.Prelude.{◌≡◌, ◌≢◌, ℕ, List, length, slice_get, Some, Vec}
use Rattle.std.specs.declared.alloc.Global.{Global}
use Rattle.wf_codec.specs.declared.message.Message.{Message}
use Rattle.wf_def.specs.Definition.{Definition}
use Rattle.wf_edge.specs.Theorem.{AsksMapService}
use Rattle.wf_edge.specs.RequestEffect.{Responds}
use Rattle.wf_delivery.specs.Delivery.{AnyPart, EachGrows}
use Rattle.wf_delivery.specs.Reachability.{AreReachableFrom, AreReachable, HaveOneHistory}
use Rattle.wf_http.specs.Response.{Response, response_bytes}
use Rattle.wf_node.specs.Node.{Node}
use Rattle.wf_tape.specs.declared.tape.Tape.{Ghosts as Tape}
use Rattle.wf_wms.specs.Answer.{AsksForMap}

-- Two lists of published maps answer a query alike: they are equally long; or it asks both for the
-- map of one sequence (MAPSEQ), however long they are.
pub data AskedAlike (query : List ℕ) (history other : List Definition) : Type 0 where
  AtOneSequence : length other ≡ length history → AskedAlike query history other
  ForOneMap : (m : ℕ) → AsksForMap m (length history) query → AsksForMap m (length other) query → AskedAlike query history other

module _ {T : Type 0} (tapes : Tape T) where
  -- Two of the nodes that answer a query alike respond to equal requests to the map service with
  -- equal bytes, if neither responds with allocation failure.
  pub record RespondAlike (nodes : List (Node T)) : Type 0 where
    pub bytes : (i j : ℕ) (input query : List ℕ) (node node_after other other_after : Node T) (sent other_sent : Vec Message Global) (response another : Response) →
        slice_get nodes i ≡ Some node → slice_get nodes j ≡ Some other → AskedAlike query node.parts.history other.parts.history → AsksMapService input query →
        Responds tapes (Some input) node response sent node_after → response.status ≢ 503 →
        Responds tapes (Some input) other another other_sent other_after → another.status ≢ 503 →
        response_bytes another ≡ response_bytes response

  -- Some events lead from the start to what the nodes are; they publish one history, and so they
  -- respond alike.
  pub record AreAgreed (nodes : List (Node T)) : Type 0 where
    pub reached : AreReachable AnyPart nodes
    pub history : HaveOneHistory nodes
    pub alike : RespondAlike nodes

  -- That holds of nodes to which nodes that were reached were led.
  abbrev pub AgreeStill : List (Node T) → Type 0
  AgreeStill nodes = (before : List (Node T)) → AreReachable AnyPart before → AreReachableFrom tapes before nodes → AreAgreed nodes

  -- Some events of the model lead the nodes on. So if its start leads to them, it does still; they
  -- publish one history, and respond alike. And no list of published maps has lost one.
  pub record HaveGoneOn (nodes nodes_after : List (Node T)) : Type 0 where
    pub reachable : AreReachableFrom tapes nodes nodes_after
    pub reached : AreReachable AnyPart nodes → AreReachable AnyPart nodes_after
    pub agree : AreReachable AnyPart nodes → HaveOneHistory nodes_after
    pub alike : AreReachable AnyPart nodes → RespondAlike nodes_after
    pub grows : EachGrows nodes nodes_after
