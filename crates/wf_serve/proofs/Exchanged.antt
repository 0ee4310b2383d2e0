-- An exchange with a node of the farm is its part of a connection, or of what the farm itself asks
-- it.
use Rattle.std.proofs.Common.{◌≡◌, ◌∙◌, ℕ, false, List, [], Vec, refl, sym, subst, arith}
use Rattle.std.specs.Prelude.{slice_get, Some}
use Rattle.std.proofs.lemmas.Option.{same_Some}
use Rattle.std.specs.declared.alloc.Global.{Global}
use Rattle.wf_codec.specs.declared.message.Message.{Message}
use Rattle.wf_def.specs.Definition.{Definition}
use Rattle.wf_edge.specs.Growth.{cached_on}
use Rattle.wf_edge.specs.RequestEffect.{IsServed}
use Rattle.wf_edge.specs.declared.outcome.Outcome.{Outcome}
use Rattle.wf_delivery.specs.Delivery.{AnyPart, AreDelivered, AreDeliveries, AreHandedOut, EachGrows, First, IsDelivered, ReachByDeliveries, StandFor}
use Rattle.wf_delivery.specs.DeliveryTheorems.{halted_itself, keeps_turn_itself}
use Rattle.wf_farm.specs.Exchange.{IsExchange}
use Rattle.wf_delivery.specs.declared.delivery.Pumped.{Pumped}
use Rattle.wf_edge.specs.Request.{Request}
use Rattle.wf_model.specs.DurableState.{DurableState}
use Rattle.wf_model.specs.Table.{Input}
use Rattle.wf_model.specs.World.{steps}
use Rattle.wf_node.specs.Node.{Node}
use Rattle.wf_serve.specs.CacheSet.{IsCachedAt}
use Rattle.wf_serve.specs.ConnectionEffect.{AreArrived, IsAsked, IsAskedAndArrived}
use Rattle.wf_serve.specs.NodeRequest.{IsAnsweredAt}
use Rattle.wf_stream.specs.declared.stream.Sink.{Ghosts as Sink}
use Rattle.wf_tape.specs.declared.tape.Tape.{Ghosts as Tape}
use Rattle.wf_wms.specs.CachedPictures.{AllCached, CacheValue}
use Rattle.wf_wms.proofs.CachedPicturesTheorem.{growth_keeps}

module _ {T C : Type 0} (tapes : Tape T) (asks : C → Node T → Vec Message Global → Node T → C → Type 0) (node_index : ℕ) (client next : C) (nodes after : List (Node T)) (pumped : Pumped)
    (exchange : IsExchange tapes asks node_index client nodes pumped next after) where
  arrived : AreArrived tapes exchange.middle exchange.outputs after
  arrived = record {
    deliveries = pumped.deliveries;
    lost = pumped.lost;
    delivered = exchange.delivered;
    stopped = pumped.stopped;
    handed = λ some. exchange.handed;
  }

  -- The node was asked for a step of its own.
  pub asked_and_arrived : (input : Input Definition) → ((before after : Node T) (outputs : Vec Message Global) → asks client before outputs after next → IsAsked tapes input before outputs after) →
      IsAskedAndArrived tapes node_index input nodes after
  asked_and_arrived input is = record {
    outputs = exchange.outputs;
    asked = exchange.middle;
    step = record {
      before = exchange.asked.before;
      after = exchange.asked.after;
      changed = record { was = exchange.asked.was; is = exchange.asked.is };
      asked = is exchange.asked.before exchange.asked.after exchange.outputs exchange.asked.asked;
    };
    arrived = arrived;
  }

  -- The node answered a request.
  pub answered : {K : Type 0} (sinks : Sink K) (request : Request) (sink sink_after : K) (outcome : Outcome) →
      ((before after : Node T) (outputs : Vec Message Global) → asks client before outputs after next → IsServed tapes sinks request sink sink_after before outputs after outcome) →
      IsAnsweredAt tapes sinks node_index request sink sink_after nodes outcome pumped after
  unfolding arrived
  answered sinks request sink sink_after outcome is = record {
    outputs = exchange.outputs;
    answered = exchange.middle;
    before = exchange.asked.before;
    after = exchange.asked.after;
    changed = record { was = exchange.asked.was; is = exchange.asked.is };
    served = is exchange.asked.before exchange.asked.after exchange.outputs exchange.asked.asked;
    receiving = arrived;
    lost = refl;
    stopped = refl;
  }

-- Nothing was sent, so nothing is delivered.
pub nothing_reachable : {T : Type 0} (stands : ℕ → DurableState Definition → Type 0) (nodes : List (Node T)) → AreDelivered stands 0 nodes [] nodes
unfolding ReachByDeliveries AreDeliveries steps
nothing_reachable stands nodes = record { sent = []; reach = λ w refines. record { events = []; deliveries = tt; at_most = omega arith; refines = refines } }

unfoldable pub nothing_arrived : {T : Type 0} (tapes : Tape T) (nodes nodes_after : List (Node T)) (outputs : Vec Message Global) → outputs.items ≡ [] → nodes_after ≡ nodes → AreArrived tapes nodes outputs nodes_after
nothing_arrived tapes nodes nodes_after outputs silent same = record {
  deliveries = 0;
  lost = 0;
  delivered = subst (λ ns. IsDelivered tapes nodes outputs.items 0 ns) (sym same) (subst (λ ms. IsDelivered tapes nodes ms 0 nodes) (sym silent) (record {
    any = nothing_reachable AnyPart nodes;
    on_tape = λ durable left may. nothing_reachable (StandFor left) nodes;
    halted = halted_itself nodes;
    turn = keeps_turn_itself nodes;
    most = omega arith;
  }));
  stopped = false;
  handed = λ some. subst (λ ns. AreHandedOut tapes nodes outputs.items 0 0 false ns) (sym same) (subst (λ ms. AreHandedOut tapes nodes ms 0 0 false nodes) (sym silent) (record {
    come = record { whole = 0; some = 0; done = 0 };
    sent = [];
    handed = First;
    count = refl;
    ended = (refl, refl);
  }));
}

-- The pictures of the node at an index are still of its maps when these have grown.
pub cached_at_on : {T : Type 0} (nodes after : List (Node T)) (node_index : ℕ) (cache : CacheValue) (before : Node T) → slice_get nodes node_index ≡ Some before →
    EachGrows nodes after → IsCachedAt nodes node_index cache → IsCachedAt after node_index cache
unfolding EachGrows
cached_at_on nodes after node_index cache before was grows cached = λ node at.
    let new = grows node_index before was in
    subst (λ n. AllCached n.parts.history cache) (same_Some new.0 node (sym new.1 ∙ at))
    (cached_on growth_keeps before.parts.history new.0.parts.history cache new.2 (cached before was))
