-- The nodes of a farm that are behind catch up: each asks a node that has published the most, and
-- the answer goes to it alone.
use Rattle.std.specs.Prelude.{◌≡◌, ◌⊎◌, ◌<◌, ◌≤◌, ◌+◌, ◌-◌, ◌||◌, ℕ, zero, suc, Bool, true, false, List, [], ◌∷◌, length, map, slice_get, slice_set, Option, Some, None}
use Rattle.wf_codec.specs.Message as message
use Rattle.wf_codec.specs.declared.message.Message.{Message}
use Rattle.wf_model.specs.Table.{most_reports, reports_from}
use Rattle.wf_node.specs.Node.{Node}
use Rattle.wf_model.specs.Table as table
use Rattle.wf_farm.specs.declared.cluster.NodeHost.{NodeHost}
use Rattle.wf_farm.specs.declared.cluster.NodeHost.TheVariants.{Running}
use Rattle.wf_delivery.specs.Delivery.{StandInTurn}
use Rattle.wf_delivery.specs.NodeInput.{MayBeLost, Takes}
use Rattle.wf_delivery.specs.Reachability.{AreReachableFrom}
use Rattle.wf_tape.specs.declared.tape.Tape.{Ghosts as Tape}

-- ---- who is behind

-- How far a node has come: 0 if it doesn't run or its tape has failed; otherwise one more than the
-- number of maps that it published.
abbrev pub rank_by : Bool → ℕ → ℕ
rank_by true count = 0
rank_by false count = count + 1

abbrev pub rank : {T : Type 0} → Option (Node T) → ℕ
rank None = 0
rank (Some node) = rank_by node.halted (length node.parts.history)

abbrev pub rank_at : {T : Type 0} → List (Node T) → ℕ → ℕ
rank_at nodes i = rank (slice_get nodes i)

-- No node has come further than node i.
unfoldable pub HasMost : {T : Type 0} → List (Node T) → ℕ → Type 0
HasMost nodes i = (k : ℕ) → rank_at nodes k ≤ rank_at nodes i

-- The node runs, and hasn't come as far as the one that it asks.
abbrev pub IsBehind : {T : Type 0} → List (Node T) → (asked requester : ℕ) → Type 0
IsBehind nodes asked requester = (0 < rank_at nodes requester) × (rank_at nodes requester < rank_at nodes asked)

-- All nodes that run have published equally many maps.
unfoldable pub StandLevel : {T : Type 0} → List (Node T) → Type 0
StandLevel {T} nodes = (i j : ℕ) (node other : Node T) → slice_get nodes i ≡ Some node → slice_get nodes j ≡ Some other → node.halted ≡ false → other.halted ≡ false →
    length node.parts.history ≡ length other.parts.history

-- ---- questions

module _ {T : Type 0} (tapes : Tape T) where
  -- A node took a message that was delivered to it, or an allocation failed and it was lost. What
  -- the node sends is delivered to none.
  pub record IsDeliveryTaken (loses : Bool) (m : Message) (before after : Node T) : Type 0 where
    pub outputs : List Message
    pub takes : Takes tapes loses (table.Deliver (message.view m)) before after outputs
    pub cause : loses ≡ true → MayBeLost m before

  -- The messages were delivered to a node, one after the other, until one was lost or none was
  -- left.
  unfoldable pub HasReceived : List Message → Bool → Node T → Node T → Type 0
  HasReceived [] lost before after = (lost ≡ false) × (after ≡ before)
  HasReceived (m ∷ rest) lost before after = ((lost ≡ true) × IsDeliveryTaken true m before after) ⊎ ((middle : Node T) × IsDeliveryTaken false m before middle × HasReceived rest lost middle after)

  -- One question: a node that is behind asks for the definition after its last one; its message is
  -- delivered to the node that it asks, and to no other; and what that one sends is delivered to
  -- the requester alone. The delivery of the question or of one message of the answer may be lost,
  -- and then no more are made.
  pub record IsOneQuestion (asked requester : ℕ) (nodes : List (Node T)) (lost : Bool) (nodes_after : List (Node T)) : Type 0 where
    pub behind : IsBehind nodes asked requester
    -- the requester before it asks, and after it heard the answer; and the one that is asked, which
    -- is unchanged
    pub before : Node T
    pub after : Node T
    pub other : Node T
    pub requester_at : slice_get nodes requester ≡ Some before
    pub asked_at : slice_get nodes asked ≡ Some other
    pub question : Message
    pub asks : Takes tapes false table.CatchUp before before (question ∷ [])
    pub answer : List Message
    pub unanswered : Bool
    pub answers : Takes tapes unanswered (table.Deliver (message.view question)) other other answer
    pub unheard : Bool
    pub receives : HasReceived answer unheard before after
    pub is_lost : lost ≡ (unanswered || unheard)
    pub nodes_are : nodes_after ≡ slice_set nodes requester after

  -- Any number of questions to one node, one after the other; and whether a delivery was lost.
  pub data HaveAsked (asked : ℕ) (nodes : List (Node T)) : Bool → List (Node T) → Type 0 where
    Rests : HaveAsked asked nodes false nodes
    Asks : (requester : ℕ) (lost loses : Bool) (middle after : List (Node T)) → HaveAsked asked nodes lost middle → IsOneQuestion asked requester middle loses after → HaveAsked asked nodes (lost || loses) after

  -- All questions were to one node, than which none had come further.
  pub record HaveCaughtUp (nodes : List (Node T)) (lost : Bool) (nodes_after : List (Node T)) : Type 0 where
    pub asked : ℕ
    pub has_most : HasMost nodes asked
    pub have_asked : HaveAsked asked nodes lost nodes_after

  -- The nodes have caught up, unless a delivery was lost: then some node is behind still.
  pub record AreCaughtUp (nodes : List (Node T)) (lost : Bool) (nodes_after : List (Node T)) : Type 0 where
    pub caught : HaveCaughtUp nodes lost nodes_after
    pub level : lost ≡ false → StandLevel nodes_after
    pub behind : lost ≡ true → StandLevel nodes_after → ⊥

  -- ---- the theorems

  -- Nodes that catch up are led on.
  abbrev pub CatchUpIsReachable : Type 0
  CatchUpIsReachable = (nodes after : List (Node T)) (lost : Bool) → StandInTurn nodes → HaveCaughtUp nodes lost after → AreReachableFrom tapes nodes after

  -- Nodes that stand level stay as they are.
  abbrev pub LevelRests : Type 0
  LevelRests = (nodes after : List (Node T)) (lost : Bool) → StandLevel nodes → HaveCaughtUp nodes lost after → after ≡ nodes

-- ---- for the crate's own contracts

-- The messages answer the question of the requester: at most eight definitions, from the one after
-- its last one on.
pub record AreAnswersTo {T : Type 0} (nodes : List (Node T)) (asked requester : ℕ) (answer : List Message) : Type 0 where
  pub before : Node T
  pub other : Node T
  pub requester_at : slice_get nodes requester ≡ Some before
  pub asked_at : slice_get nodes asked ≡ Some other
  pub answer_is : map message.view answer ≡ reports_from other.parts.history (length before.parts.history + 1) most_reports

-- The messages were delivered to the node in an entry.
pub record ReceivesAt {T : Type 0} (tapes : Tape T) (i : ℕ) (messages : List Message) (lost : Bool) (hosts hosts_after : List (NodeHost T)) : Type 0 where
  pub before : Node T
  pub after : Node T
  pub at : slice_get hosts i ≡ Some (Running before)
  pub received : HasReceived tapes messages lost before after
  pub hosts_are : hosts_after ≡ slice_set hosts i (Running after)

-- No node but the requester is changed, and it hasn't come further than the one that it asks.
pub record OneChanges {T : Type 0} (asked requester : ℕ) (nodes nodes_after : List (Node T)) : Type 0 where
  pub others : (k : ℕ) → (k ≡ requester → ⊥) → slice_get nodes_after k ≡ slice_get nodes k
  pub asked_stays : slice_get nodes_after asked ≡ slice_get nodes asked
  pub within : rank_at nodes_after requester ≤ rank_at nodes asked

-- A question brings the requester on, unless its tape fails; or a delivery is lost, and it is
-- behind still.
abbrev pub BringsOn : {T : Type 0} → (asked requester : ℕ) → List (Node T) → Bool → List (Node T) → Type 0
BringsOn asked requester nodes true nodes_after = IsBehind nodes_after asked requester
BringsOn asked requester nodes false nodes_after = (rank_at nodes_after requester ≡ 0) ⊎ (rank_at nodes requester < rank_at nodes_after requester)

-- The node has caught up, unless its tape has failed; or a delivery was lost, and it is behind
-- still.
abbrev pub IsLevelAt : {T : Type 0} → List (Node T) → (asked requester : ℕ) → Type 0
IsLevelAt nodes asked requester = (rank_at nodes requester ≡ 0) ⊎ (rank_at nodes requester ≡ rank_at nodes asked)

abbrev pub EndsUp : {T : Type 0} → (asked requester : ℕ) → Bool → List (Node T) → Type 0
EndsUp asked requester true nodes = IsBehind nodes asked requester
EndsUp asked requester false nodes = IsLevelAt nodes asked requester

-- The first nodes, this many, have caught up so.
abbrev pub FirstEndUp : {T : Type 0} → (asked count : ℕ) → Bool → List (Node T) → Type 0
FirstEndUp asked count true nodes = (k : ℕ) × (k < count) × IsBehind nodes asked k
FirstEndUp asked count false nodes = (k : ℕ) → k < count → IsLevelAt nodes asked k

-- How many maps the node lacks, 0 if it doesn't run: each question of it lacks fewer.
abbrev pub lacks_by : ℕ → ℕ → ℕ
lacks_by zero most = 0
lacks_by (suc count) most = most - suc count

abbrev pub lacks : {T : Type 0} → List (Node T) → (asked requester : ℕ) → ℕ
lacks nodes asked requester = lacks_by (rank_at nodes requester) (rank_at nodes asked)
