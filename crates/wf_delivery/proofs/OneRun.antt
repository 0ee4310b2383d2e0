-- What happens to nodes that a caller holds, step by step, is one run of the model; and nodes that
-- the start leads to agree.
use Rattle.std.proofs.Common.{◌≡◌, ◌⊎◌, ℕ, zero, suc, Bool, true, false, List, [], ◌∷◌, ◌++◌, map, length, replicate, slice_get, slice_set, Some, Result, Ok, Err, IfOk, IfErr, refl, sym, ap, subst, ◌∙◌, inl, append_assoc, Vec}
use Rattle.wf_delivery.proofs.Common.{Global, both_ways, append-nil, map-append, none-some, Message, Definition, empty_map, definition_eq, sent_before, raised, IsBeginning, history_of, history, definition, steps_in_turn, DurableState, definition_at, Action, Input, store, World, Event, Act, Torn, input_of, turn, after_turn, happens, steps, start, after, EachStandsFor, Node, stored_of, transition_of, IsStep, NodeFault, AnyPart, StandFor, AreNodes, Refines, StandInTurn, IsReachableByDeliveries, ReachByDeliveries, AreDelivered, Answers, Takes, is_memory, halted_itself, halted_twice, keeps_turn, keeps_turn_itself, keeps_turn_twice, IsReachableWith, IsReachableFrom, ReachSending, Reach, AreReachableSending, AreReachable, AreFresh, HaveOneHistory, IsOwnInput, outputs_by, StepIsReachable, DeliveriesAreReachable, NothingIsReachable, NothingIsOutput, ReachableIsTransitive, BothAreOutput, UnheardIsReachable, ReachableStaysReachable, ReachableOnTape, FreshAreReachable, FreshOnTape, fresh_node}
use Rattle.std.proofs.Math.ListN.{length-replicate}
use Rattle.wf_codec.specs.Message as message
use Rattle.wf_model.specs.Message as model
use Rattle.wf_model.specs.Table as table
use Rattle.wf_model.specs.World as world
use Rattle.wf_node.specs.declared.fault.NodeFault.TheVariants as fault_case
use Rattle.wf_delivery.specs.Delivery as delivering
use Rattle.wf_delivery.specs.NodeInput as giving
use Rattle.wf_delivery.proofs.Deliveries.{IsActed, Stays, Acts, Tears, any_answered, any_rejected, running_is, takes_acts, stays_halted, stays_itself, keeps_halted, left_here, left_before, begins_itself}
use Rattle.wf_delivery.proofs.Stored.{node_eq}
use Rattle.wf_delivery.proofs.Turns.{world_of}
use Rattle.wf_safety.proofs.Earlier.{earlier_messages}
use Rattle.wf_safety.proofs.Theorems.{agreement}
use Rattle.wf_tape.specs.declared.tape.Tape.{Ghosts as Tape}

-- ---- a node is asked to step

-- the action whose input this is, whatever was sent
record IsAsked (input : Input Definition) : Type 0 where
  action : Action Definition ℕ
  given : (sent : List (model.Message Definition)) → input_of sent action ≡ Some input

asked : (input : Input Definition) → IsOwnInput input → IsAsked input
unfolding input_of
asked (table.Propose d) own = record { action = table.Propose d; given = λ sent. refl }
asked table.Retry own = record { action = table.Retry; given = λ sent. refl }
asked table.CatchUp own = record { action = table.CatchUp; given = λ sent. refl }
asked (table.Deliver m) own = absurd own

module _ {T : Type 0} (stands : ℕ → DurableState Definition → Type 0) (w : World Definition) (nodes : List (Node T)) (sent : List Message) where
  no_event : Refines stands nodes sent w → IsReachableWith stands w nodes sent
  unfolding steps
  no_event refines = record { events = []; refines = refines }

  one_event : (event : Event Definition) → Refines stands nodes sent (happens definition_eq w event) → IsReachableWith stands w nodes sent
  unfolding steps
  one_event event refines = record { events = event ∷ []; refines = refines }

  acted_event : (i : ℕ) (action : Action Definition ℕ) → Refines stands nodes sent (after_turn w i (turn definition_eq w i action)) → IsReachableWith stands w nodes sent
  unfolding happens
  acted_event i action refines = one_event (Act i action) refines

  torn_event : (i : ℕ) (action : Action Definition ℕ) (kept : world.Kept) → Refines stands nodes sent (world.after_torn w i kept (turn definition_eq w i action)) → IsReachableWith stands w nodes sent
  unfolding happens
  torn_event i action kept refines = one_event (Torn i action kept) refines

  -- No event, or that one, complete or a crash within it, leads to what a step leaves.
  asked_once : (i : ℕ) (input : Input Definition) (is : IsAsked input) → IsActed stands i is.action w nodes sent → IsReachableWith stands w nodes sent
  asked_once i input is (Stays refines) = no_event refines
  asked_once i input is (Acts refines) = acted_event i is.action refines
  asked_once i input is (Tears kept refines) = torn_event i is.action kept refines

module _ {T : Type 0} (tapes : Tape T) (nodes : List (Node T)) (i : ℕ) (node after : Node T) (input : Input Definition) (outputs : List Message)
    (at : slice_get nodes i ≡ Some node) (turns : StandInTurn nodes) (own : IsOwnInput input) where
  takes_reaches : (stands : ℕ → DurableState Definition → Type 0) (lost : Bool) → Takes tapes lost input node after outputs →
      (after.halted ≡ true → (tapes.durable → EachStandsFor (stored_of node) (store (stored_of node) (transition_of node input).entry) (tapes.images after.tape)) → stands i (stored_of node) ⊎ stands i (store (stored_of node) (transition_of node input).entry)) →
      ReachSending stands nodes outputs (slice_set nodes i after)
  unfolding ReachSending
  takes_reaches stands lost takes torn = λ w sent refines.
      let is = asked input own in
      asked_once stands w (slice_set nodes i after) (sent ++ outputs) i input is
      (takes_acts stands nodes sent i node after is.action input at (is.given (map message.view sent)) turns tapes outputs lost takes torn w refines)

  -- Whatever a node does that is asked to step, it leads the nodes on.
  pub takes_reachable : (lost : Bool) → Takes tapes lost input node after outputs → AreReachableSending tapes nodes outputs (slice_set nodes i after)
  takes_reachable lost takes = record {
    any = takes_reaches AnyPart lost takes (λ halts each. inl tt);
    on_tape = λ h left may. takes_reaches (StandFor left) lost takes (λ halts each. each h (left i) (left_here tapes nodes left i node after at may halts));
    halted = keeps_halted nodes i node after at (stays_halted tapes node after input outputs lost takes);
    turn = keeps_turn nodes i node after at (stays_itself tapes node after input outputs lost takes);
  }

-- What a node returns is what it does; the input is lost if it returns allocation failure.
module _ {T : Type 0} (tapes : Tape T) (before after : Node T) (input : Input Definition) where
  abbrev is_lost : Result (Vec Message Global) NodeFault → Bool
  is_lost (Ok outputs) = false
  is_lost (Err f) = is_memory f

  abbrev TakesBy : Result (Vec Message Global) NodeFault → Type 0
  TakesBy answer = Takes tapes (is_lost answer) input before after (outputs_by answer)

  takes_either : (answer : Result (Vec Message Global) NodeFault) → IfOk answer (λ outputs. Answers tapes input before after outputs.items) → IfErr answer (λ f. Takes tapes (is_memory f) input before after []) →
      TakesBy answer
  takes_either (Ok outputs) answered lost = answered
  takes_either (Err f) answered lost = lost

  takes_running : (answer : Result (Vec Message Global) NodeFault) → before.halted ≡ false → IsStep tapes before input answer after → TakesBy answer
  takes_running answer runs step =
      let halted : before.halted ≡ true → answer ≡ Err fault_case.Halted = λ is. absurd (both_ways before.halted runs is) in
      takes_either answer
      (any_answered tapes before after input answer halted (λ is. step.refused) step.done step.grown)
      (any_rejected tapes before after input answer halted (λ is. absurd (step.running is)) (λ is. step.refused) step.unchanged step.same step.still_running step.same_tape step.halts step.kept step.part step.torn)

  takes_halted : (answer : Result (Vec Message Global) NodeFault) → before.halted ≡ true → answer ≡ Err fault_case.Halted → after ≡ before → TakesBy answer
  takes_halted answer is halted same = subst TakesBy (sym halted) (giving.Halts is same refl)

  takes_by : (halted : Bool) (answer : Result (Vec Message Global) NodeFault) → before.halted ≡ halted → (before.halted ≡ true → (answer ≡ Err fault_case.Halted) × (after ≡ before)) →
      (before.halted ≡ false → IsStep tapes before input answer after) → TakesBy answer
  takes_by true answer is refused steps = takes_halted answer is (refused is).0 (refused is).1
  takes_by false answer is refused steps = takes_running answer is (steps is)

  pub takes_answered : (answer : Result (Vec Message Global) NodeFault) → (before.halted ≡ true → (answer ≡ Err fault_case.Halted) × (after ≡ before)) →
      (before.halted ≡ false → IsStep tapes before input answer after) → TakesBy answer
  takes_answered answer refused steps = takes_by before.halted answer refl refused steps

pub step_is_reachable : {T : Type 0} (tapes : Tape T) → StepIsReachable tapes
step_is_reachable tapes = λ nodes i before after input answer at turns own refused steps.
    takes_reachable tapes nodes i before after input (outputs_by answer) at turns own (is_lost tapes before after input answer)
    (takes_answered tapes before after input answer refused steps)

-- ---- one run

module _ {T : Type 0} (stands : ℕ → DurableState Definition → Type 0) (w : World Definition) (events : List (Event Definition)) (nodes : List (Node T)) where
  -- Events that lead on from where events led.
  reachable_through : IsReachableFrom stands (steps definition_eq w events) nodes → IsReachableFrom stands w nodes
  reachable_through reachable = record {
    sent = reachable.sent;
    events = events ++ reachable.events;
    refines = subst (Refines stands nodes reachable.sent) (sym (steps_in_turn Definition definition_eq w events reachable.events)) reachable.refines;
  }

  outputs_through : (sent : List Message) → IsReachableWith stands (steps definition_eq w events) nodes sent → IsReachableWith stands w nodes sent
  outputs_through sent reachable = record {
    events = events ++ reachable.events;
    refines = subst (Refines stands nodes sent) (sym (steps_in_turn Definition definition_eq w events reachable.events)) reachable.refines;
  }

-- ---- the messages sent are delivered

module _ {T : Type 0} (stands : ℕ → DurableState Definition → Type 0) (middle after : List (Node T)) (outputs : List Message) (w : World Definition) (sent : List Message) where
  -- the world in which only these messages were sent
  abbrev alone : World Definition
  alone = world_of w.nodes (map message.view outputs)

  with_earlier : Refines stands middle (sent ++ outputs) w → w ≡ sent_before (map message.view sent) alone
  unfolding sent_before
  with_earlier refines = ap (world_of w.nodes) (refines.messages ∙ map-append message.view sent outputs)

  shown_alone : Refines stands middle (sent ++ outputs) w → Refines stands middle outputs alone
  shown_alone refines = record { nodes_are = refines.nodes_are; messages = refl }

  shown_with_earlier : (more : List Message) (ended : World Definition) → Refines stands after more ended → Refines stands after (sent ++ more) (sent_before (map message.view sent) ended)
  unfolding sent_before
  shown_with_earlier more ended refines = record {
    nodes_are = refines.nodes_are;
    messages = ap (λ ms. map message.view sent ++ ms) refines.messages ∙ sym (map-append message.view sent more);
  }

  -- The deliveries of messages sent lead on from any world in which they were the last sent: only
  -- each message number is increased, by the count of those sent before.
  received_on : (done : ℕ) → AreDelivered stands done middle outputs after → Refines stands middle (sent ++ outputs) w → IsReachableFrom stands w after
  unfolding ReachByDeliveries
  received_on done delivered refines =
      let reachable : IsReachableByDeliveries stands alone done after delivered.sent = delivered.reach alone (shown_alone refines) in
      let many = length (map message.view sent) in
      record {
        sent = sent ++ delivered.sent;
        events = raised many reachable.events;
        refines = subst (Refines stands after (sent ++ delivered.sent))
            (sym (ap (λ (x : World Definition). steps definition_eq x (raised many reachable.events)) (with_earlier refines) ∙ earlier_messages Definition definition_eq (map message.view sent) alone reachable.events))
            (shown_with_earlier delivered.sent (steps definition_eq alone reachable.events) reachable.refines);
      }

module _ {T : Type 0} (stands : ℕ → DurableState Definition → Type 0) (nodes middle after : List (Node T)) (outputs : List Message) where
  deliveries_reach : (done : ℕ) → ReachSending stands nodes outputs middle → AreDelivered stands done middle outputs after → Reach stands nodes after
  unfolding ReachSending Reach
  deliveries_reach done reaches delivered = λ w sent refines.
      let reachable = reaches w sent refines in
      reachable_through stands w reachable.events after (received_on stands middle after outputs (steps definition_eq w reachable.events) sent done delivered reachable.refines)

pub deliveries_are_reachable : {T : Type 0} (tapes : Tape T) → DeliveriesAreReachable tapes
deliveries_are_reachable tapes = λ nodes middle after outputs done reachable delivered. record {
  any = deliveries_reach AnyPart nodes middle after outputs done reachable.any delivered.any;
  on_tape = λ h left may.
      deliveries_reach (StandFor left) nodes middle after outputs done (reachable.on_tape h left (left_before tapes middle after left delivered.halted may)) (delivered.on_tape h left may);
  halted = halted_twice nodes middle after reachable.halted delivered.halted;
  turn = keeps_turn_twice nodes middle after reachable.turn delivered.turn;
}

-- ---- step by step

module _ {T : Type 0} (stands : ℕ → DurableState Definition → Type 0) where
  nothing_reaches : (nodes : List (Node T)) → Reach stands nodes nodes
  unfolding Reach steps
  nothing_reaches nodes = λ w sent refines. record { sent = sent; events = []; refines = refines }

  no_outputs : (nodes : List (Node T)) → ReachSending stands nodes [] nodes
  unfolding ReachSending
  no_outputs nodes = λ w sent refines. no_event stands w nodes (sent ++ []) (subst (λ ms. Refines stands nodes ms w) (sym (append-nil sent)) refines)

  module _ (nodes middle after : List (Node T)) where
    reaches_twice : Reach stands nodes middle → Reach stands middle after → Reach stands nodes after
    unfolding Reach
    reaches_twice first second = λ w sent refines.
        let reachable = first w sent refines in
        reachable_through stands w reachable.events after (second (steps definition_eq w reachable.events) reachable.sent reachable.refines)

    sends_twice : (outputs more : List Message) → ReachSending stands nodes outputs middle → ReachSending stands middle more after → ReachSending stands nodes (outputs ++ more) after
    unfolding ReachSending
    sends_twice outputs more first second = λ w sent refines.
        let reachable = first w sent refines in
        outputs_through stands w reachable.events after (sent ++ (outputs ++ more))
        (subst (IsReachableWith stands (steps definition_eq w reachable.events) after) (append_assoc sent outputs more) (second (steps definition_eq w reachable.events) (sent ++ outputs) reachable.refines))

  unheard : (nodes after : List (Node T)) (outputs : List Message) → ReachSending stands nodes outputs after → Reach stands nodes after
  unfolding ReachSending Reach
  unheard nodes after outputs reaches = λ w sent refines.
      let reachable = reaches w sent refines in
      record { sent = sent ++ outputs; events = reachable.events; refines = reachable.refines }

module _ {T : Type 0} (tapes : Tape T) where
  pub nothing_is_reachable : NothingIsReachable tapes
  nothing_is_reachable = λ nodes. record {
    any = nothing_reaches AnyPart nodes;
    on_tape = λ h left may. nothing_reaches (StandFor left) nodes;
    halted = halted_itself nodes;
    turn = keeps_turn_itself nodes;
  }

  pub nothing_is_output : NothingIsOutput tapes
  nothing_is_output = λ nodes. record {
    any = no_outputs AnyPart nodes;
    on_tape = λ h left may. no_outputs (StandFor left) nodes;
    halted = halted_itself nodes;
    turn = keeps_turn_itself nodes;
  }

  pub reachable_is_transitive : ReachableIsTransitive tapes
  reachable_is_transitive = λ nodes middle after first second. record {
    any = reaches_twice AnyPart nodes middle after first.any second.any;
    on_tape = λ h left may. reaches_twice (StandFor left) nodes middle after (first.on_tape h left (left_before tapes middle after left second.halted may)) (second.on_tape h left may);
    halted = halted_twice nodes middle after first.halted second.halted;
    turn = keeps_turn_twice nodes middle after first.turn second.turn;
  }

  pub both_are_output : BothAreOutput tapes
  both_are_output = λ nodes middle after outputs more first second. record {
    any = sends_twice AnyPart nodes middle after outputs more first.any second.any;
    on_tape = λ h left may. sends_twice (StandFor left) nodes middle after outputs more (first.on_tape h left (left_before tapes middle after left second.halted may)) (second.on_tape h left may);
    halted = halted_twice nodes middle after first.halted second.halted;
    turn = keeps_turn_twice nodes middle after first.turn second.turn;
  }

  pub unheard_is_reachable : UnheardIsReachable tapes
  unheard_is_reachable = λ nodes after outputs reachable. record {
    any = unheard AnyPart nodes after outputs reachable.any;
    on_tape = λ h left may. unheard (StandFor left) nodes after outputs (reachable.on_tape h left may);
    halted = reachable.halted;
    turn = reachable.turn;
  }

-- ---- from the start on

module _ {T : Type 0} (stands : ℕ → DurableState Definition → Type 0) (nodes ended : List (Node T)) where
  reached_through : AreReachable stands nodes → Reach stands nodes ended → length ended ≡ length nodes → AreReachable stands ended
  unfolding Reach after
  reached_through reached reaches long =
      let reachable = reaches (steps definition_eq (start (length nodes)) reached.events) reached.sent reached.refines in
      let whole = reachable_through stands (start (length nodes)) reached.events ended reachable in
      record { sent = whole.sent; events = whole.events; refines = subst (λ k. Refines stands ended whole.sent (steps definition_eq (start k) whole.events)) (sym long) whole.refines }

module _ {T : Type 0} (tapes : Tape T) where
  pub reachable_stays_reachable : ReachableStaysReachable tapes
  reachable_stays_reachable = λ nodes ended reached reachable. reached_through AnyPart nodes ended reached reachable.any reachable.turn.as_many

  pub reachable_on_tape : ReachableOnTape tapes
  reachable_on_tape = λ h left nodes ended may reached reachable. reached_through (StandFor left) nodes ended reached (reachable.on_tape h left may) reachable.turn.as_many

-- ---- the start

-- as many of one element as there are nodes
one_each : {A B : Type 0} (xs : List A) (i : ℕ) (x : A) (y : B) → slice_get xs i ≡ Some x → slice_get (replicate (length xs) y) i ≡ Some y
one_each [] i x y e = absurd (none-some x e)
one_each (z ∷ xs) zero x y e = refl
one_each (z ∷ xs) (suc i) x y e = one_each xs i x y e

module _ {T : Type 0} (stands : ℕ → DurableState Definition → Type 0) (nodes : List (Node T)) where
  pub fresh_shown : AreFresh nodes → Refines stands nodes [] (start (length nodes))
  unfolding AreFresh start
  fresh_shown fresh = record {
    nodes_are = record {
      as_many = length-replicate (length nodes) fresh_node;
      node_is = λ i node at.
          let is = fresh i node at in
          (fresh_node, one_each nodes i node fresh_node at, running_is (stands i) node fresh_node is.runs (node_eq _ _ _ _ (sym is.stored) (ap Some (sym is.volatile))));
    };
    messages = refl;
  }

  fresh_reached : AreFresh nodes → AreReachable stands nodes
  unfolding after steps
  fresh_reached fresh = record { sent = []; events = []; refines = fresh_shown fresh }

pub fresh_are_reachable : (T : Type 0) → FreshAreReachable T
fresh_are_reachable T = λ nodes fresh. fresh_reached AnyPart nodes fresh

pub fresh_on_tape : (T : Type 0) → FreshOnTape T
fresh_on_tape T = λ left nodes fresh. fresh_reached (StandFor left) nodes fresh

-- ---- the headline

-- an entry of a list is in every list that it is a prefix of
entry_begins : (xs rest : List Definition) (k : ℕ) (d : Definition) → slice_get xs k ≡ Some d → slice_get (xs ++ rest) k ≡ Some d
entry_begins [] rest k d e = absurd (none-some d e)
entry_begins (x ∷ xs) rest zero d e = e
entry_begins (x ∷ xs) rest (suc k) d e = entry_begins xs rest k d e

-- The list that a node reports as published is a prefix of what its node of the model has stored.
reported_begins : {T : Type 0} (halted : Bool) (stands : DurableState Definition → Type 0) (node : Node T) (x : world.Node Definition) → delivering.IsNodeBy halted stands node x → IsBeginning node.parts.history x.stored.history
reported_begins false stands node x is = subst (λ (y : world.Node Definition). IsBeginning node.parts.history y.stored.history) (sym is) (begins_itself node.parts.history)
reported_begins true stands node x is = is.1

module _ {T : Type 0} (nodes : List (Node T)) (w : World Definition) (i : ℕ) (node : Node T) where
  reported_in : (definitions : List Definition) (s : ℕ) (d : Definition) → IsBeginning definitions (history w i) → definition_at definitions s ≡ Some d → definition empty_map w i s ≡ Some d
  unfolding definition definition_at
  reported_in definitions zero d begins e = absurd (none-some d e)
  reported_in definitions (suc k) d (rest, whole) e = subst (λ (ds : List Definition). slice_get ds k ≡ Some d) whole (entry_begins definitions rest k d e)

  -- what a node reports as published is published in the world
  published_in : (s : ℕ) (d : Definition) → AreNodes AnyPart nodes w.nodes → slice_get nodes i ≡ Some node → definition_at node.parts.history s ≡ Some d → definition empty_map w i s ≡ Some d
  unfolding history history_of
  published_in s d are at e =
      let here = are.node_is i node at in
      let begins = reported_begins node.halted (AnyPart i) node here.0 here.2 in
      reported_in node.parts.history s d (subst (IsBeginning node.parts.history) (sym (ap history_of here.1)) begins) e

pub agree_reached : {T : Type 0} (nodes : List (Node T)) → AreReachable AnyPart nodes → HaveOneHistory nodes
unfolding HaveOneHistory
agree_reached nodes reached = λ i j s node other c d at there first second.
    let w = after definition_eq (length nodes) reached.events in
    ((agreement Definition).facts definition_eq (length nodes) reached.events).same_definition empty_map i j s c d
    (published_in nodes w i node s c reached.refines.nodes_are at first)
    (published_in nodes w j other s d reached.refines.nodes_are there second)
