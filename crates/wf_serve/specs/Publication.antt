-- A map that is accepted over a connection to one of three new nodes is published on all of them;
-- and new nodes that caught up are new still.
use Rattle.std.specs.Prelude.{◌≡◌, ℕ, false, List, length, Option, IfSome}
use Rattle.wf_def.specs.Definition.{Definition}
use Rattle.wf_edge.specs.Publish.{IsMapOf}
use Rattle.wf_edge.specs.declared.outcome.Outcome.{Outcome}
use Rattle.wf_edge.specs.declared.outcome.Outcome.TheVariants as outcome
use Rattle.wf_delivery.specs.Delivery.{StandInTurn}
use Rattle.wf_delivery.specs.Reachability.{AreFresh}
use Rattle.wf_delivery.specs.Publication.{AllPublish}
use Rattle.wf_delivery.specs.Delivery.{NoneHalted}
use Rattle.wf_edge.specs.Request.{Request, BeginsWith}
use Rattle.wf_node.specs.Node.{Node}
use Rattle.wf_serve.specs.ConnectionEffect.{HaveCaughtUp, IsConnection}
use Rattle.wf_serve.specs.declared.connection_effect.ConnectionOutcome.{ConnectionOutcome}
use Rattle.wf_tape.specs.declared.tape.Tape.{Ghosts as Tape}

-- the status of the response to an accepted map (RFC 9110, 15.3.3)
abbrev pub accepted_status : ℕ
accepted_status = 202

-- The response had that status, whether or not it was written completely.
abbrev pub WasAccepted : Outcome → Type 0
WasAccepted (outcome.Sent status count) = status ≡ accepted_status
WasAccepted (outcome.WriteFailed status count) = status ≡ accepted_status
WasAccepted outcome.ReadFailed = ⊥
WasAccepted outcome.NoRequest = ⊥

-- Each node has published the map that the body of the request means, under sequence 1, and no
-- proposal is running.
pub record HavePublishedTheMap {T : Type 0} (input : Option (List ℕ)) (nodes : List (Node T)) : Type 0 where
  pub request : Request
  -- the request that was received, if what was received is known
  pub received : IfSome input (λ bytes. BeginsWith bytes request)
  pub map : Definition
  pub is_map : IsMapOf request.body map
  pub published : AllPublish nodes map

-- What three new nodes accepted over a connection they have all published, if none of the
-- deliveries was lost, they went on until none was left, and no node is halted.
abbrev pub AcceptedMeansPublished : {T : Type 0} → Option (List ℕ) → List (Node T) → ConnectionOutcome → List (Node T) → Type 0
AcceptedMeansPublished input nodes outcome nodes_after =
    length nodes ≡ 3 → AreFresh nodes → WasAccepted outcome.request → outcome.deliveries.lost ≡ 0 → outcome.deliveries.stopped ≡ false → NoneHalted nodes_after → HavePublishedTheMap input nodes_after

module _ {T : Type 0} (tapes : Tape T) where
  -- A connection to one of three new nodes was answered so; none of the deliveries of the node's
  -- messages was lost, they went on until none was left, and no tape failed.
  abbrev pub AcceptedIsPublished : Type 0
  AcceptedIsPublished = (node_index : ℕ) (input old new : Option (List ℕ)) (nodes nodes_after : List (Node T)) (outcome : Outcome) →
      length nodes ≡ 3 → StandInTurn nodes → AreFresh nodes → (connection : IsConnection tapes node_index input old new nodes outcome nodes_after) → WasAccepted outcome →
      connection.receiving.lost ≡ 0 → connection.receiving.stopped ≡ false → NoneHalted connection.arrived → HavePublishedTheMap input nodes_after

  -- New nodes that caught up are new still.
  abbrev pub CaughtUpAreNew : Type 0
  CaughtUpAreNew = (nodes nodes_after : List (Node T)) → AreFresh nodes → HaveCaughtUp tapes nodes nodes_after → AreFresh nodes_after
