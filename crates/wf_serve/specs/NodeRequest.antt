-- How a node of a farm answers a request: one that only reads from what it has published, a publish
-- by a step whose messages the others receive.
use Rattle.std.specs.Prelude.{◌≡◌, ◌⊎◌, ℕ, false, List, slice_get, Some, Result, Ok, Err, Vec}
use Rattle.std.specs.declared.alloc.Global.{Global}
use Rattle.wf_codec.specs.declared.message.Message.{Message}
use Rattle.wf_edge.specs.ResponseEnd.{IsFaultEnded}
use Rattle.wf_edge.specs.Page.{status_at}
use Rattle.wf_edge.specs.Request.{Request}
use Rattle.wf_edge.specs.Completion.{CountsCompleting, IsErrorCompleted}
use Rattle.wf_edge.specs.RequestEffect.{IsReadAnswered, IsServed}
use Rattle.wf_edge.specs.declared.outcome.Outcome.{Outcome}
use Rattle.wf_delivery.specs.declared.delivery.Pumped.{Pumped}
use Rattle.wf_http.specs.declared.fault.RequestFault.{RequestFault}
use Rattle.wf_node.specs.Node.{Node}
use Rattle.wf_serve.specs.ConnectionEffect.{AreArrived, IsChangedAt}
use Rattle.wf_serve.specs.declared.connection_effect.ConnectionOutcome.{ConnectionOutcome}
use Rattle.wf_stream.specs.declared.stream.Sink.{Ghosts as Sink}
use Rattle.wf_tape.specs.declared.tape.Tape.{Ghosts as Tape}

-- Nothing was delivered.
abbrev pub no_deliveries : Pumped
no_deliveries = record { deliveries = 0; lost = 0; stopped = false }

module _ {T K : Type 0} (tapes : Tape T) (sinks : Sink K) where
  -- The node at index `node_index` answered the request from what it has published. It stays as it
  -- is, and sends nothing.
  pub record IsReadAt (node_index : ℕ) (request : Request) (sink sink_after : K) (nodes : List (Node T)) (outcome : Outcome) : Type 0 where
    pub node : Node T
    pub at : slice_get nodes node_index ≡ Some node
    pub read : IsReadAnswered sinks request node.parts.history (status_at node) sink sink_after outcome

  -- The node at index `node_index` answered the request, and its messages were delivered.
  pub record IsAnsweredAt (node_index : ℕ) (request : Request) (sink sink_after : K) (nodes : List (Node T)) (outcome : Outcome) (pumped : Pumped) (nodes_after : List (Node T)) : Type 0 where
    -- the node's messages, and the nodes by then
    pub outputs : Vec Message Global
    pub answered : List (Node T)
    -- the node before and after
    pub before : Node T
    pub after : Node T
    pub changed : IsChangedAt node_index nodes before after answered
    pub served : IsServed tapes sinks request sink sink_after before outputs after outcome
    pub receiving : AreArrived tapes answered outputs nodes_after
    -- what is told of the deliveries
    pub lost : receiving.lost ≡ pumped.lost
    pub stopped : receiving.stopped ≡ pumped.stopped

  -- the reply to a request: one that only reads, which leaves the nodes as they are, or a publish
  abbrev pub IsReplyToRequest : ℕ → Request → K → K → List (Node T) → ConnectionOutcome → List (Node T) → Type 0
  IsReplyToRequest node_index request sink sink_after nodes outcome nodes_after =
      (IsReadAt node_index request sink sink_after nodes outcome.request × (outcome.deliveries ≡ no_deliveries) × (nodes_after ≡ nodes))
      ⊎ IsAnsweredAt node_index request sink sink_after nodes outcome.request outcome.deliveries nodes_after

  -- There is no request, for a reason. Its rejection was written, or nothing, and the nodes are as
  -- they were.
  pub record IsRequestRejected (why : RequestFault) (sink sink_after : K) (nodes : List (Node T)) (outcome : ConnectionOutcome) (nodes_after : List (Node T)) : Type 0 where
    pub outputs : IsErrorCompleted why (sinks.written sink) (sinks.written sink_after) outcome.request
    pub writes : CountsCompleting outcome.request (sinks.failures sink) (sinks.failures sink_after)
    pub last : IsFaultEnded sinks why sink sink_after outcome.request
    pub quiet : outcome.deliveries ≡ no_deliveries
    pub same : nodes_after ≡ nodes

  -- the response to what was read
  abbrev pub IsResponseToRead : ℕ → Result Request RequestFault → K → K → List (Node T) → ConnectionOutcome → List (Node T) → Type 0
  IsResponseToRead node_index (Ok request) sink sink_after nodes outcome nodes_after = IsReplyToRequest node_index request sink sink_after nodes outcome nodes_after
  IsResponseToRead node_index (Err why) sink sink_after nodes outcome nodes_after = IsRequestRejected why sink sink_after nodes outcome nodes_after
