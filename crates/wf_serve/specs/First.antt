-- The first connection to a new farm of three, and what comes after it.
use Rattle.std.specs.Prelude.{◌≡◌, ℕ, suc, ⊤, false, List, length, slice_get, Option, Some, IfSome}
use Rattle.std.proofs.Common.{inl, inr}
use Rattle.wf_def.specs.Definition.{Definition}
use Rattle.wf_edge.specs.Publish.{IsMapOf}
use Rattle.wf_delivery.specs.Delivery.{StandInTurn}
use Rattle.wf_delivery.specs.Reachability.{AreFresh}
use Rattle.wf_delivery.specs.Delivery.{NoneHalted}
use Rattle.wf_edge.specs.Request.{Request, BeginsWith}
use Rattle.wf_model.specs.DurableState.{definition_at}
use Rattle.wf_node.specs.Node.{Node}
use Rattle.wf_serve.specs.Connections.{HaveCome, MayBeAnswered}
use Rattle.wf_serve.specs.Publication.{WasAccepted}
use Rattle.wf_tape.specs.declared.tape.Tape.{Ghosts as Tape}

-- Under sequence 1 each node has published the map that the body of the request means.
pub record HavePublishedFirst {T : Type 0} (input : Option (List ℕ)) (nodes : List (Node T)) : Type 0 where
  pub request : Request
  -- the request that was received, if what was received is known
  pub received : IfSome input (λ bytes. BeginsWith bytes request)
  pub map : Definition
  pub is_map : IsMapOf request.body map
  pub published : (i : ℕ) (node : Node T) → slice_get nodes i ≡ Some node → definition_at node.parts.history 1 ≡ Some map

module _ {T : Type 0} (tapes : Tape T) where
  -- If the connection was answered with the status of an accepted map, none of the deliveries was
  -- lost, they went on until none was left, and no tape failed by then, the nodes have published
  -- it.
  abbrev pub IfAccepted : {node_index : ℕ} {nodes first : List (Node T)} → MayBeAnswered tapes node_index nodes first → List (Node T) → Type 0
  IfAccepted (inl answered) nodes_after = WasAccepted answered.outcome → answered.connection.receiving.lost ≡ 0 → answered.connection.receiving.stopped ≡ false → NoneHalted answered.connection.arrived →
      HavePublishedFirst answered.input nodes_after
  IfAccepted (inr same) nodes_after = ⊤

  -- Three new nodes served connections, at least one. There is the first one, by node 0, and what
  -- it published they have published after all of them.
  abbrev pub FirstIsPublished : Type 0
  FirstIsPublished = (later : ℕ) (nodes nodes_after : List (Node T)) → length nodes ≡ 3 → StandInTurn nodes → AreFresh nodes → HaveCome tapes (length nodes) (suc later) nodes nodes_after →
      (first : List (Node T)) × (answer : MayBeAnswered tapes 0 nodes first) × IfAccepted answer nodes_after
