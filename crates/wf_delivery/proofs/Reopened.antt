-- Nodes that are opened again from what reached nodes left are reached: each stops and restarts.
use Rattle.std.proofs.Common.{◌≡◌, ◌∙◌, ℕ, zero, suc, ◌<◌, Bool, true, false, List, [], ◌∷◌, ◌++◌, length, slice_get, slice_set, Option, Some, None, refl, sym, ap, subst, inl, inr, arith, length-set}
use Rattle.wf_delivery.proofs.Common.{cases_lt, none-some, same_Some, slice_get_within, Message, Definition, definition_eq, steps_in_turn, DurableState, at_start, World, Event, Stop, Restart, after_restart, happens, steps, start, after, StandsFor, Node, stored_of, AnyPart, StandFor, IsNodeBy, Refines, AreReachable, AreReopened, HasStoredAgain, ReopenedAreReachable, ReopenedOnTape, node_stopped, node_restarted, volatile_restarted, get_set_other, set_there}
use Rattle.wf_model.specs.World as world
use Rattle.wf_delivery.proofs.Deliveries.{running_is}
use Rattle.wf_delivery.proofs.Runs.{steps_more}
use Rattle.wf_delivery.proofs.Stored.{node_eq, node_of, one_stand}
use Rattle.wf_delivery.proofs.Turns.{restart_sets, stop_sets, world_of}

-- ---- the model's nodes stop and restart

-- a node with the durable state of another, and no proposal or leadership
abbrev idle_again : world.Node Definition → world.Node Definition
idle_again node = node_of node.stored (Some at_start)

restarted_idle : (node : world.Node Definition) → node_restarted (node_stopped node) ≡ idle_again node
unfolding node_restarted node_stopped volatile_restarted
restarted_idle node = refl

-- the nodes after node k stopped and restarted
abbrev with_idle : List (world.Node Definition) → ℕ → world.Node Definition → List (world.Node Definition)
with_idle nodes k node = slice_set (slice_set nodes k (node_stopped node)) k (idle_again node)

stops_and_restarts : (w : World Definition) (k : ℕ) (node : world.Node Definition) → slice_get w.nodes k ≡ Some node →
    happens definition_eq (happens definition_eq w (Stop k)) (Restart k) ≡ world_of (with_idle w.nodes k node) w.sent
unfolding happens
stops_and_restarts w k node at =
    let stopped = world_of (slice_set w.nodes k (node_stopped node)) w.sent in
    ap (λ (u : World Definition). after_restart u k (slice_get u.nodes k)) (stop_sets w k node at)
    ∙ restart_sets stopped k (node_stopped node) (set_there w.nodes k (node_stopped node) node at)
    ∙ ap (λ x. world_of (slice_set (slice_set w.nodes k (node_stopped node)) k x) w.sent) (restarted_idle node)

-- The first k nodes have no proposal and no leadership any more; nothing else has changed.
record AreRestarted (k : ℕ) (w now : World Definition) : Type 0 where
  sent : now.sent ≡ w.sent
  many : length now.nodes ≡ length w.nodes
  first : (i : ℕ) (node : world.Node Definition) → i < k → slice_get w.nodes i ≡ Some node → slice_get now.nodes i ≡ Some (idle_again node)
  rest : (i : ℕ) → (i < k → ⊥) → slice_get now.nodes i ≡ slice_get w.nodes i

-- Some events do that.
record RestartsFirst (k : ℕ) (w : World Definition) : Type 0 where
  events : List (Event Definition)
  are : AreRestarted k w (steps definition_eq w events)

module _ (k : ℕ) (w now : World Definition) (are : AreRestarted k w now) where
  -- There is no node at the next index.
  none_more : slice_get now.nodes k ≡ None → AreRestarted (suc k) w now
  none_more none = record {
    sent = are.sent;
    many = are.many;
    first = λ i node less at. elim (cases_lt i k) [
      | inl lower ↦ are.first i node lower at
      | inr last ↦
          let same : i ≡ k = omega (arith, less, last) in
          absurd (none-some node (sym none ∙ are.rest k (λ below. absurd (omega (arith, below))) ∙ subst (λ j. slice_get w.nodes j ≡ Some node) same at))
    ];
    rest = λ i beyond. are.rest i (λ less. beyond (omega (arith, less)));
  }

  -- The node at the next index stops and restarts.
  one_more : (next : world.Node Definition) → slice_get now.nodes k ≡ Some next → AreRestarted (suc k) w (world_of (with_idle now.nodes k next) now.sent)
  one_more next there = record {
    sent = are.sent;
    many = length-set (slice_set now.nodes k (node_stopped next)) k (idle_again next) ∙ length-set now.nodes k (node_stopped next) ∙ are.many;
    first = λ i node less at. elim (cases_lt i k) [
      | inl lower ↦ other i (λ same. absurd (omega (arith, lower, same))) ∙ are.first i node lower at
      | inr last ↦
          let same : i ≡ k = omega (arith, less, last) in
          let it : next ≡ node = same_Some next node (sym there ∙ are.rest k (λ below. absurd (omega (arith, below))) ∙ subst (λ j. slice_get w.nodes j ≡ Some node) same at) in
          subst (λ j. slice_get (with_idle now.nodes k next) j ≡ Some (idle_again node)) (sym same) (this ∙ ap (λ x. Some (idle_again x)) it)
    ];
    rest = λ i beyond. other i (λ same. beyond (omega (arith, same))) ∙ are.rest i (λ less. beyond (omega (arith, less)));
  }
    where
      this : slice_get (with_idle now.nodes k next) k ≡ Some (idle_again next)
      this = set_there (slice_set now.nodes k (node_stopped next)) k (idle_again next) (node_stopped next) (set_there now.nodes k (node_stopped next) next there)

      other : (i : ℕ) → (i ≡ k → ⊥) → slice_get (with_idle now.nodes k next) i ≡ slice_get now.nodes i
      other i differs =
          get_set_other (slice_set now.nodes k (node_stopped next)) k i (idle_again next) differs ∙ get_set_other now.nodes k i (node_stopped next) differs

restart_more : (k : ℕ) (w : World Definition) (so : RestartsFirst k w) (there : Option (world.Node Definition)) → slice_get (steps definition_eq w so.events).nodes k ≡ there → RestartsFirst (suc k) w
restart_more k w so None none = record { events = so.events; are = none_more k w (steps definition_eq w so.events) so.are none }
restart_more k w so (Some next) there =
    let now = steps definition_eq w so.events in
    record {
      events = (so.events ++ Stop k ∷ []) ++ Restart k ∷ [];
      are = subst (AreRestarted (suc k) w)
          (sym (steps_more w (so.events ++ Stop k ∷ []) (Restart k) ∙ ap (λ (u : World Definition). happens definition_eq u (Restart k)) (steps_more w so.events (Stop k)) ∙ stops_and_restarts now k next there))
          (one_more k w now so.are next there);
    }

no_restart : (w : World Definition) → RestartsFirst 0 w
unfolding steps
no_restart w = record {
  events = [];
  are = record { sent = refl; many = refl; first = λ i node less at. absurd (omega (arith, less)); rest = λ i beyond. refl };
}

restart_first : (k : ℕ) (w : World Definition) → RestartsFirst k w
restart_first zero w = no_restart w
restart_first (suc k) w =
    let so = restart_first k w in
    restart_more k w so (slice_get (steps definition_eq w so.events).nodes k) refl

-- ---- the nodes that are opened again

module _ {T U : Type 0} (stands : DurableState Definition → Type 0) (left : List ℕ) (known : (stored others : DurableState Definition) → stands stored → StandsFor others left → stored ≡ others) where
  stored_again : (halted : Bool) (node : Node T) (next : Node U) (x : world.Node Definition) → IsNodeBy halted stands node x → HasStoredAgain halted left node next → x.stored ≡ stored_of next
  stored_again false node next x is again = ap (λ (y : world.Node Definition). y.stored) is ∙ sym again
  stored_again true node next x is again = known x.stored (stored_of next) is.2 again

module _ {T U : Type 0} (left : ℕ → List ℕ) (nodes : List (Node T)) (again : List (Node U)) (opened : AreReopened left nodes again) where
  again_shown : (stands : ℕ → DurableState Definition → Type 0) (w : World Definition) (so : RestartsFirst (length nodes) w) (sent : List Message) → Refines (StandFor left) nodes sent w →
      Refines stands again sent (steps definition_eq w so.events)
  again_shown stands w so sent refines = record {
    nodes_are = record {
      as_many = so.are.many ∙ refines.nodes_are.as_many ∙ sym opened.as_many;
      node_is = λ i next at.
          let was = opened.each i next at in
          let here = refines.nodes_are.node_is i was.0 was.1 in
          let stored : here.0.stored ≡ stored_of next =
          stored_again (StandFor left i) (left i) (λ stored others first second. one_stand (left i) stored others first second) was.0.halted was.0 next here.0 here.2 was.2.stored in (
            idle_again here.0,
            so.are.first i here.0 (slice_get_within nodes i was.0 was.1) here.1,
            running_is (stands i) next (idle_again here.0) was.2.runs (node_eq _ _ _ _ stored (ap Some (sym was.2.idle))),
          );
    };
    messages = so.are.sent ∙ refines.messages;
  }

  again_reached : (stands : ℕ → DurableState Definition → Type 0) → AreReachable (StandFor left) nodes → AreReachable stands again
  unfolding after
  again_reached stands reached =
      let w = steps definition_eq (start (length nodes)) reached.events in
      let so = restart_first (length nodes) w in
      record {
        sent = reached.sent;
        events = reached.events ++ so.events;
        refines = subst (λ k. Refines stands again reached.sent (steps definition_eq (start k) (reached.events ++ so.events))) (sym opened.as_many)
            (subst (Refines stands again reached.sent) (sym (steps_in_turn Definition definition_eq (start (length nodes)) reached.events so.events)) (again_shown stands w so reached.sent reached.refines));
      }

pub reopened_are_reachable : (T U : Type 0) → ReopenedAreReachable T U
reopened_are_reachable T U = λ left nodes again reached opened. again_reached left nodes again opened AnyPart reached

pub reopened_on_tape : (T U : Type 0) → ReopenedOnTape T U
reopened_on_tape T U = λ left now nodes again reached opened. again_reached left nodes again opened (StandFor now) reached
