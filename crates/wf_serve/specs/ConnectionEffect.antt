-- The effect of one connection on the nodes: one of them serves a request, its messages are
-- delivered, and if its proposal still runs then, it restarts it. Then each node that is behind
-- catches up.
use Rattle.std.specs.Prelude.{◌≡◌, ◌≢◌, ◌⊎◌, ◌<◌, ℕ, Bool, false, List, length, slice_get, slice_set, Option, Some, Result, Vec}
use Rattle.std.specs.declared.alloc.Global.{Global}
use Rattle.wf_codec.specs.declared.message.Message.{Message}
use Rattle.wf_def.specs.Definition.{Definition}
use Rattle.wf_edge.specs.StepResult.{IsStepResult}
use Rattle.wf_edge.specs.Page.{proposal_state_at}
use Rattle.wf_edge.specs.RequestEffect.{HandsOut, IsOutcome, MovesOnce}
use Rattle.wf_edge.specs.declared.outcome.Outcome.{Outcome}
use Rattle.wf_edge.specs.declared.outcome.Outcome.TheVariants as outcome
use Rattle.wf_catch_up.specs.CatchUp as farm
use Rattle.wf_catch_up.specs.CatchUp.{StandLevel}
use Rattle.wf_delivery.specs.Delivery.{AreHandedOut, IsDelivered}
use Rattle.wf_model.specs.Table.{Input, Retry}
use Rattle.wf_node.specs.Node.{Node}
use Rattle.wf_node.specs.declared.fault.NodeFault.{NodeFault}
use Rattle.wf_proposer.specs.declared.proposal_state.ProposalState.TheVariants.{Running}
use Rattle.wf_stream.specs.Effects.{EndsByFailing}
use Rattle.wf_stream.specs.declared.stream.Sink.{Ghosts as Sink}
use Rattle.wf_tape.specs.declared.tape.Tape.{Ghosts as Tape}

-- At index `node_index` was the one node and is the other afterwards; each other node is unchanged.
pub record IsChangedAt {T : Type 0} (node_index : ℕ) (nodes : List (Node T)) (before after : Node T) (nodes_after : List (Node T)) : Type 0 where
  pub was : slice_get nodes node_index ≡ Some before
  pub is : nodes_after ≡ slice_set nodes node_index after

-- the node at index `node_index` has a running proposal
abbrev pub ProposesAt : {T : Type 0} → ℕ → List (Node T) → Type 0
ProposesAt {T} node_index nodes = (node : Node T) × (slice_get nodes node_index ≡ Some node) × (proposal_state_at node ≡ Running)

-- it has none
abbrev pub RestsAt : {T : Type 0} → ℕ → List (Node T) → Type 0
RestsAt {T} node_index nodes = (node : Node T) × (slice_get nodes node_index ≡ Some node) × (proposal_state_at node ≢ Running)

module _ {T : Type 0} (tapes : Tape T) where
  -- These messages were delivered to the nodes, and so were the messages that they sent in reply.
  pub record AreArrived (nodes : List (Node T)) (outputs : Vec Message Global) (nodes_after : List (Node T)) : Type 0 where
    -- the number of deliveries made, and how many of them an allocation failure lost
    pub deliveries : ℕ
    pub lost : ℕ
    pub delivered : IsDelivered tapes nodes outputs.items deliveries nodes_after
    -- each message was delivered to each node, until none was left, or the deliveries stopped early
    pub stopped : Bool
    pub handed : 0 < length nodes → AreHandedOut tapes nodes outputs.items deliveries lost stopped nodes_after

  -- The node at index `node_index` served the request that was received, and sent these messages.
  pub record IsServedAt (node_index : ℕ) (input old new : Option (List ℕ)) (nodes : List (Node T)) (outputs : Vec Message Global) (nodes_after : List (Node T)) (outcome : Outcome) : Type 0 where
    -- the node before and after
    pub before : Node T
    pub after : Node T
    pub changed : IsChangedAt node_index nodes before after nodes_after
    -- what was written, and what the node did
    pub served : IsOutcome tapes input old new before outputs after outcome
    -- also if the input isn't known
    pub moves : MovesOnce tapes before outputs after

  -- The node at index `node_index` served the request that was received, and its messages were
  -- delivered.
  pub record IsServedAndArrived (node_index : ℕ) (input old new : Option (List ℕ)) (nodes : List (Node T)) (outcome : Outcome) (nodes_after : List (Node T)) : Type 0 where
    -- the node's messages in serving, and the nodes by then
    pub outputs : Vec Message Global
    pub served : List (Node T)
    pub request : IsServedAt node_index input old new nodes outputs served outcome
    pub receiving : AreArrived served outputs nodes_after

  -- The messages of a node that is asked for a step: exactly the step's, none if the step was
  -- rejected or failed.
  pub record IsAsked (input : Input Definition) (before : Node T) (outputs : Vec Message Global) (after : Node T) : Type 0 where
    pub answer : Result (Vec Message Global) NodeFault
    pub answers : IsStepResult tapes input before answer after
    pub hands : HandsOut answer outputs

  -- The node at index `node_index` was asked so.
  pub record IsAskedAt (node_index : ℕ) (input : Input Definition) (nodes : List (Node T)) (outputs : Vec Message Global) (nodes_after : List (Node T)) : Type 0 where
    -- the node before and after
    pub before : Node T
    pub after : Node T
    pub changed : IsChangedAt node_index nodes before after nodes_after
    pub asked : IsAsked input before outputs after

  -- The node at index `node_index` was asked so, and its messages were delivered.
  pub record IsAskedAndArrived (node_index : ℕ) (input : Input Definition) (nodes nodes_after : List (Node T)) : Type 0 where
    -- the node's messages, and the nodes by then
    pub outputs : Vec Message Global
    pub asked : List (Node T)
    pub step : IsAskedAt node_index input nodes outputs asked
    pub arrived : AreArrived asked outputs nodes_after

  -- Each node that was behind has asked one that had published the most, which answered to it
  -- alone. Where no delivery was lost, all nodes that run have published equally many maps
  -- afterwards.
  pub record HaveCaughtUp (nodes nodes_after : List (Node T)) : Type 0 where
    -- an allocation failed, and a delivery was lost
    pub lost : Bool
    pub caught : farm.HaveCaughtUp tapes nodes lost nodes_after
    pub level : lost ≡ false → StandLevel nodes_after

  -- The proposal of the node at index `node_index` was running; the node was asked to restart it,
  -- and its messages were delivered.
  pub record IsProposalBegunAnew (node_index : ℕ) (nodes nodes_after : List (Node T)) : Type 0 where
    pub runs : ProposesAt node_index nodes
    pub anew : IsAskedAndArrived node_index Retry nodes nodes_after

  -- A running proposal was restarted; if none was running, nothing happened.
  abbrev pub IsRetried : ℕ → List (Node T) → List (Node T) → Type 0
  IsRetried node_index nodes nodes_after = IsProposalBegunAnew node_index nodes nodes_after ⊎ (RestsAt node_index nodes × (nodes_after ≡ nodes))

  -- The effect of one connection: a request was served by the node at index `node_index`, its
  -- messages were delivered, and its proposal was restarted if it was still running. Then the nodes
  -- caught up.
  pub record IsConnection (node_index : ℕ) (input old new : Option (List ℕ)) (nodes : List (Node T)) (outcome : Outcome) (nodes_after : List (Node T)) : Type 0 where
    -- the node's messages in serving, and the nodes by then
    pub outputs : Vec Message Global
    pub served : List (Node T)
    -- the nodes after the deliveries
    pub arrived : List (Node T)
    pub request : IsServedAt node_index input old new nodes outputs served outcome
    pub receiving : AreArrived served outputs arrived
    -- the nodes after the retry
    pub retried : List (Node T)
    pub retry : IsRetried node_index arrived retried
    pub catch_up : HaveCaughtUp retried nodes_after

-- How writing the response ended, of any writer: a failed write is the last call, and some bytes
-- were written without a failure before it. If the input is empty or the reader failed, the writer
-- isn't called.
abbrev pub EndsWriting : {K : Type 0} → Sink K → K → K → Outcome → Type 0
EndsWriting sinks old new (outcome.Sent status count) = Unit {0}
EndsWriting sinks old new (outcome.WriteFailed status count) = (bytes : List ℕ) × EndsByFailing sinks.written sinks.failures sinks.fails bytes old new
EndsWriting sinks old new outcome.ReadFailed = new ≡ old
EndsWriting sinks old new outcome.NoRequest = new ≡ old
