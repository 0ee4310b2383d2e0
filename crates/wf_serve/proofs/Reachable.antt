-- A node's own step leads the nodes on.
use Rattle.std.proofs.Common.{◌≡◌, ℕ, List, Vec, slice_get, slice_set, Some, Result, Ok, Err, sym, ap, subst}
use Rattle.std.specs.declared.alloc.Global.{Global}
use Rattle.wf_codec.specs.declared.message.Message.{Message}
use Rattle.wf_def.specs.Definition.{Definition}
use Rattle.wf_model.specs.Table as table
use Rattle.wf_edge.specs.RequestEffect.{HandsOut, MovesOnce, Stays, Proposes}
use Rattle.wf_delivery.proofs.OneRun.{nothing_is_output, step_is_reachable}
use Rattle.wf_delivery.specs.Delivery.{KeepTurn, StandInTurn}
use Rattle.wf_delivery.specs.DeliveryTheorems.{keeps_turn_twice}
use Rattle.wf_delivery.specs.NodeInput.{IsSturdy}
use Rattle.wf_farm.specs.Exchange.{ReachabilityGoesOn}
use Rattle.wf_delivery.specs.SturdyTheorems.{same_sturdy, step_sturdy}
use Rattle.wf_delivery.specs.Reachability.{AreReachableSending, IsOwnInput, outputs_by}
use Rattle.wf_delivery.specs.IndexTheorems.{set_same}
use Rattle.wf_node.specs.Node.{Node}
use Rattle.wf_node.specs.declared.fault.NodeFault.{NodeFault}
use Rattle.wf_serve.specs.ConnectionEffect.{IsAsked, IsAskedAndArrived}
use Rattle.wf_tape.specs.declared.tape.Tape.{Ghosts as Tape}

pub hands_outputs : (answer : Result (Vec Message Global) NodeFault) (outputs : Vec Message Global) → HandsOut answer outputs → outputs_by answer ≡ outputs.items
hands_outputs (Ok messages) outputs is = ap (λ (v : Vec Message Global). v.items) (sym is)
hands_outputs (Err why) outputs is = sym is

module _ {T : Type 0} (tapes : Tape T)
    (nodes : List (Node T)) (i : ℕ) (before after : Node T) (at : slice_get nodes i ≡ Some before) (turns : StandInTurn nodes) (outputs : Vec Message Global) where
  -- it was asked for a step
  pub asked_reaches : (input : table.Input Definition) → IsOwnInput input → IsAsked tapes input before outputs after →
      AreReachableSending tapes nodes outputs.items (slice_set nodes i after)
  asked_reaches input own asked =
      subst (λ ms. AreReachableSending tapes nodes ms (slice_set nodes i after)) (hands_outputs asked.answer outputs asked.hands)
      (step_is_reachable tapes nodes i before after input asked.answer at turns own asked.answers.refused asked.answers.steps)

  -- it served a request: it is unchanged, or has proposed
  pub moved_reaches : MovesOnce tapes before outputs after → AreReachableSending tapes nodes outputs.items (slice_set nodes i after)
  moved_reaches (Stays unmoved) =
      subst (λ n. AreReachableSending tapes nodes outputs.items (slice_set nodes i n)) (sym unmoved.same)
      (subst (λ ns. AreReachableSending tapes nodes outputs.items ns) (sym (set_same nodes i before at))
      (subst (λ ms. AreReachableSending tapes nodes ms nodes) (sym unmoved.quiet) (nothing_is_output tapes nodes)))
  moved_reaches (Proposes d result proposed hands) =
      subst (λ ms. AreReachableSending tapes nodes ms (slice_set nodes i after)) (hands_outputs result outputs hands)
      (step_is_reachable tapes nodes i before after (table.Propose d) result at turns tt proposed.refused proposed.steps)

-- A node that was asked leads any nodes on among which it is, and isn't halted where its tape won't
-- fail.
module _ {T : Type 0} (tapes : Tape T) (before after : Node T) (outputs : Vec Message Global) where
  pub asked_reaches_on : (input : table.Input Definition) → IsOwnInput input → IsAsked tapes input before outputs after → ReachabilityGoesOn tapes before outputs.items after
  unfolding ReachabilityGoesOn
  asked_reaches_on input own asked = λ nodes i at turns. asked_reaches tapes nodes i before after at turns outputs input own asked

  pub moved_reaches_on : MovesOnce tapes before outputs after → ReachabilityGoesOn tapes before outputs.items after
  unfolding ReachabilityGoesOn
  moved_reaches_on moves = λ nodes i at turns. moved_reaches tapes nodes i before after at turns outputs moves

module _ {T : Type 0} (tapes : Tape T) (before after : Node T) (outputs : Vec Message Global) where
  pub moved_sturdy : MovesOnce tapes before outputs after → IsSturdy tapes before after
  moved_sturdy (Stays unmoved) = same_sturdy tapes before after unmoved.same
  moved_sturdy (Proposes d result proposed hands) = step_sturdy tapes before after (table.Propose d) result proposed.steps proposed.sturdy proposed.sound

-- A node was asked for a step of its own, and its messages were delivered: each node keeps its
-- index and what it published.
module _ {T : Type 0} (tapes : Tape T) (node_index : ℕ) (input : table.Input Definition) (own : IsOwnInput input)
    (nodes after : List (Node T)) (turns : StandInTurn nodes) (one : IsAskedAndArrived tapes node_index input nodes after) where
  asked_reachable : AreReachableSending tapes nodes one.outputs.items one.asked
  asked_reachable =
      subst (AreReachableSending tapes nodes one.outputs.items) (sym one.step.changed.is)
      (asked_reaches tapes nodes node_index one.step.before one.step.after one.step.changed.was turns one.outputs input own one.step.asked)

  pub asked_turn : KeepTurn nodes after
  asked_turn = keeps_turn_twice nodes one.asked after asked_reachable.turn one.arrived.delivered.turn
