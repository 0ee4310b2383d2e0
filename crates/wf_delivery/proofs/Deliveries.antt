-- A step of one of the nodes that a caller holds is an event of the world that they are; so is a
-- delivery, and so are many.
use Rattle.std.proofs.Common.{◌≡◌, ◌≢◌, ◌⊎◌, ℕ, ◌+◌, ◌≤◌, nat_lt, Bool, true, false, List, [], ◌∷◌, ◌++◌, map, length, slice_get, slice_set, Option, Some, None, Result, Ok, Err, IfOk, IfErr, OnOk, refl, sym, ap, subst, ◌∙◌, inl, inr, arith, length-append, length-set, Vec}
use Rattle.wf_delivery.proofs.Common.{both_ways, cases_eq, false≢true, nat_tests, append-nil, length-map, map-append, same_Some, Ballot, Message, Definition, definition_eq, IsBeginning, DurableState, Record, published, with_record, Action, Input, StepRejection, most_reports, store, World, Event, Turn, deliver, Torn, Before, After, input_of, turn_of, turn, stored_after, kept_part, after_turn, after_torn, with_node, happens, steps, IsGrown, grown_itself, transition_grown, same_grown, EachStandsFor, Node, stored_of, volatile_of, transition_of, step_rejection_at, IsTransition, IsSameNode, bytes_of, NodeFault, IsExtended, IsUnchanged, PumpProgress, Answers, MayBeLost, Takes, is_halt, is_memory, reports_halt, AnyPart, StandFor, IsNodeBy, AreNodes, Refines, StandAmong, StandInTurn, MayLeaveOfEach, IsDelivery, AreDeliveries, IsReachableByDeliveries, ReachByDeliveries, TakeOne, KeepHalted, IsOne, IsGiven, IsHanded, First, Next, AreHandedOut, ComeSoFar, IsDelivered, AreCounted, counted, next, still_runs, halted_itself, halted_twice, keeps_turn, keeps_turn_itself, keeps_turn_twice, get_set_same, get_set_other, set_there, AreChanged, Changed, Unchanged}
use Rattle.wf_codec.specs.Message as message
use Rattle.wf_model.specs.Fits.{TransitionsAreShort}
use Rattle.wf_model.specs.DurableState as part
use Rattle.wf_model.specs.Table as table
use Rattle.wf_model.specs.World as world
use Rattle.wf_model.specs.World.{Kept}
use Rattle.wf_node.specs.Fault as fault
use Rattle.wf_node.specs.declared.fault.NodeFault.TheVariants as fault_case
use Rattle.wf_delivery.specs.NodeInput as giving
use Rattle.wf_delivery.specs.Delivery.{ShowsNode, IsDeliveryEnd}
use Rattle.wf_delivery.proofs.DeliveryCount.{done_on, none_begun}
use Rattle.wf_delivery.proofs.Runs.{sent_message, steps_more}
use Rattle.wf_delivery.proofs.Stored.{node_eq, node_of}
use Rattle.wf_delivery.proofs.Turns.{turn_goes, turn_is}
use Rattle.wf_tape.specs.declared.tape.Tape.{Ghosts as Tape}

-- ---- what a node does with an input

-- whether an error is a failure of the tape
abbrev is_failure : NodeFault → Bool
is_failure fault_case.Memory = false
is_failure fault_case.Busy = false
is_failure fault_case.SequenceFull = false
is_failure fault_case.RoundsFull = false
is_failure fault_case.Halted = false
is_failure fault_case.TapeFailed = true
is_failure fault_case.Nothing = false

abbrev sends_halted : {A : Type 0} → Result A NodeFault → Bool
sends_halted (Ok x) = false
sends_halted (Err f) = is_halt f

not_true : (b : Bool) → (b ≡ true → ⊥) → b ≡ false
not_true true never = absurd (never refl)
not_true false never = refl

-- A node that returns another error than "halted" isn't halted.
runs_by : {A : Type 0} (result : Result A NodeFault) (halted : Bool) → sends_halted result ≡ false → (halted ≡ true → result ≡ Err fault_case.Halted) → halted ≡ false
runs_by result halted other answers = not_true halted (λ is. false≢true (sym other ∙ ap sends_halted (answers is)))

-- an error that is neither allocation failure nor a failure of the tape
neither : (f : NodeFault) → is_memory f ≡ false → is_failure f ≡ false → (f ≢ fault_case.Memory) × (f ≢ fault_case.TapeFailed)
neither f memory failure = (λ is. false≢true (sym memory ∙ ap is_memory is), λ is. false≢true (sym failure ∙ ap is_failure is))

-- The error that a node would return to a proposal tells whether it is halted.
pub halt_reported : (halted : Bool) (why : Option StepRejection) (reported : Option NodeFault) → (halted ≡ true → reported ≡ Some fault_case.Halted) → (halted ≡ false → fault.IsWhyNot why reported) → reports_halt reported ≡ halted
halt_reported true why reported halts runs = ap reports_halt (halts refl)
halt_reported false why None halts runs = refl
halt_reported false why (Some fault_case.Memory) halts runs = refl
halt_reported false why (Some fault_case.Busy) halts runs = refl
halt_reported false why (Some fault_case.SequenceFull) halts runs = refl
halt_reported false why (Some fault_case.RoundsFull) halts runs = refl
halt_reported false why (Some fault_case.Halted) halts runs = absurd ((runs refl).1 (sym (runs refl).0))
halt_reported false why (Some fault_case.TapeFailed) halts runs = refl
halt_reported false why (Some fault_case.Nothing) halts runs = refl

-- Without an input that is lost a step is an answer.
module _ {T : Type 0} (tapes : Tape T) (node after : Node T) (input : Input Definition) where
  rejects : (f : NodeFault) (why : StepRejection) → fault.step_rejection_of f ≡ Some why → is_memory f ≡ false → is_failure f ≡ false → node.halted ≡ false →
      (node.halted ≡ false → fault.step_rejection_of f ≡ step_rejection_at node input) → (f ≢ fault_case.Memory → f ≢ fault_case.TapeFailed → after ≡ node) → Answers tapes input node after []
  rejects f why reports memory failure runs refused unchanged =
      let other = neither f memory failure in
      giving.Rejects why runs (sym (refused runs) ∙ reports) (unchanged other.0 other.1) refl

module _ {T A : Type 0} (tapes : Tape T) (node after : Node T) (input : Input Definition) where
  pub any_answered : (result : Result (Vec Message A) NodeFault) → (node.halted ≡ true → result ≡ Err fault_case.Halted) → (node.halted ≡ false → fault.rejected_by result ≡ step_rejection_at node input) →
      IfOk result (λ outputs. IsTransition node (transition_of node input) outputs.items after) → (tapes.durable → OnOk result (tapes.content after.tape ≡ tapes.content node.tape ++ bytes_of (transition_of node input).entry)) →
      IfOk result (λ outputs. Answers tapes input node after outputs.items)
  any_answered (Ok outputs) halted refused is grown =
      let runs = runs_by {A = Vec Message A} (Ok outputs) node.halted refl halted in
      giving.Steps runs (sym (refused runs)) is grown
  any_answered (Err f) halted refused is grown = tt

  -- An error is an answer, unless it is allocation failure: then the input is lost.
  pub any_rejected : (result : Result (Vec Message A) NodeFault) → (node.halted ≡ true → result ≡ Err fault_case.Halted) → (result ≡ Err fault_case.Halted → node.halted ≡ true) →
      (node.halted ≡ false → fault.rejected_by result ≡ step_rejection_at node input) →
      IfErr result (λ f. f ≢ fault_case.Memory → f ≢ fault_case.TapeFailed → after ≡ node) → IfErr result (λ f. IsSameNode node after) → (result ≡ Err fault_case.Memory → after.halted ≡ false) →
      (tapes.durable → result ≡ Err fault_case.Memory → IsUnchanged (tapes.content node.tape) (tapes.content after.tape) (tapes.images node.tape) (tapes.images after.tape)) → (result ≡ Err fault_case.TapeFailed → after.halted ≡ true) →
      (result ≡ Err fault_case.TapeFailed → after.failed ≡ (transition_of node input).entry) →
      (tapes.durable → result ≡ Err fault_case.TapeFailed → IsExtended (tapes.content node.tape) (bytes_of (transition_of node input).entry) (tapes.content after.tape)) →
      (tapes.durable → result ≡ Err fault_case.TapeFailed → EachStandsFor (stored_of node) (store (stored_of node) (transition_of node input).entry) (tapes.images after.tape)) →
      IfErr result (λ f. Takes tapes (is_memory f) input node after [])
  any_rejected (Ok outputs) halted running refused unchanged same spares spared halts keeps part torn = tt
  any_rejected (Err fault_case.Memory) halted running refused unchanged same spares spared halts keeps part torn =
      record { runs = runs_by {A = Vec Message A} (Err fault_case.Memory) node.halted refl halted; still = spares refl; same = same; kept = λ h. (spared h refl).content; quiet = refl }
  any_rejected (Err fault_case.TapeFailed) halted running refused unchanged same spares spared halts keeps part torn =
      let runs = runs_by {A = Vec Message A} (Err fault_case.TapeFailed) node.halted refl halted in
      giving.Fails runs (sym (refused runs)) (halts refl) same (keeps refl) (λ h. part h refl) (λ h. torn h refl) refl
  any_rejected (Err fault_case.Halted) halted running refused unchanged same spares spared halts keeps part torn =
      let other = neither fault_case.Halted refl refl in giving.Halts (running refl) (unchanged other.0 other.1) refl
  any_rejected (Err fault_case.Busy) halted running refused unchanged same spares spared halts keeps part torn =
      rejects tapes node after input fault_case.Busy table.Busy refl refl refl (runs_by {A = Vec Message A} (Err fault_case.Busy) node.halted refl halted) refused unchanged
  any_rejected (Err fault_case.SequenceFull) halted running refused unchanged same spares spared halts keeps part torn =
      rejects tapes node after input fault_case.SequenceFull table.SequenceFull refl refl refl (runs_by {A = Vec Message A} (Err fault_case.SequenceFull) node.halted refl halted) refused unchanged
  any_rejected (Err fault_case.RoundsFull) halted running refused unchanged same spares spared halts keeps part torn =
      rejects tapes node after input fault_case.RoundsFull table.RoundsFull refl refl refl (runs_by {A = Vec Message A} (Err fault_case.RoundsFull) node.halted refl halted) refused unchanged
  any_rejected (Err fault_case.Nothing) halted running refused unchanged same spares spared halts keeps part torn =
      rejects tapes node after input fault_case.Nothing table.NothingToRetry refl refl refl (runs_by {A = Vec Message A} (Err fault_case.Nothing) node.halted refl halted) refused unchanged

-- A node that halts does so since its tape failed.
module _ {T A : Type 0} (tapes : Tape T) (node after : Node T) (input : Input Definition) (result : Result (Vec Message A) NodeFault) (P : Type 0) where
  pub any_cut : (result ≡ Err fault_case.Halted → node.halted ≡ true) → IfOk result (λ outputs. IsTransition node (transition_of node input) outputs.items after) → IfErr result (λ f. f ≢ fault_case.Memory → f ≢ fault_case.TapeFailed → after ≡ node) →
      (result ≡ Err fault_case.Memory → after.halted ≡ false) → (result ≡ Err fault_case.TapeFailed → P) → node.halted ≡ false → after.halted ≡ true → P
  any_cut halted transition unchanged memory cut runs halts = by_failure result refl
    where
      ends : IfErr result (λ f. f ≢ fault_case.TapeFailed) → P
      ends sound = absurd (both_ways after.halted (still_runs tapes node after input result halted transition unchanged memory sound runs) halts)

      other : (f : NodeFault) → f ≢ fault_case.TapeFailed → result ≡ Err f → P
      other f not is = ends (subst (λ (x : Result (Vec Message A) NodeFault). IfErr x (λ f. f ≢ fault_case.TapeFailed)) (sym is) not)

      by_failure : (r : Result (Vec Message A) NodeFault) → result ≡ r → P
      by_failure (Ok outputs) is = ends (subst (λ (x : Result (Vec Message A) NodeFault). IfErr x (λ f. f ≢ fault_case.TapeFailed)) (sym is) tt)
      by_failure (Err fault_case.Memory) is = other fault_case.Memory (λ e. cc) is
      by_failure (Err fault_case.Busy) is = other fault_case.Busy (λ e. cc) is
      by_failure (Err fault_case.SequenceFull) is = other fault_case.SequenceFull (λ e. cc) is
      by_failure (Err fault_case.RoundsFull) is = other fault_case.RoundsFull (λ e. cc) is
      by_failure (Err fault_case.Halted) is = other fault_case.Halted (λ e. cc) is
      by_failure (Err fault_case.Nothing) is = other fault_case.Nothing (λ e. cc) is
      by_failure (Err fault_case.TapeFailed) is = cut is

-- No step sends more than eight messages.
module _ {T A : Type 0} (node after : Node T) (input : Input Definition) where
  pub any_short : TransitionsAreShort Definition → (result : Result (Vec Message A) NodeFault) → IfOk result (λ outputs. IsTransition node (transition_of node input) outputs.items after) → IfOk result (λ outputs. length outputs.items ≤ most_reports)
  any_short short (Ok outputs) is =
      omega (arith, length-map outputs.items message.view, ap length is.messages, short definition_eq node.n node.id (stored_of node) (volatile_of node) input)
  any_short short (Err f) is = tt

pub none_few : (outputs : List Message) → outputs ≡ [] → length outputs ≤ most_reports
none_few outputs quiet = let none : length outputs ≡ 0 = ap length quiet in omega (arith, none)

-- Nothing is sent: by a halted node, and if the input is lost before the node is asked.
module _ {T : Type 0} (tapes : Tape T) (input : Input Definition) (node : Node T) (outputs : List Message) (quiet : outputs ≡ []) where
  pub halted_takes : (lost : Bool) → lost ≡ false → node.halted ≡ true → Takes tapes lost input node node outputs
  halted_takes lost is halted = subst (λ b. Takes tapes b input node node outputs) (sym is) (giving.Halts halted refl quiet)

  pub unheard_takes : (lost : Bool) → lost ≡ true → node.halted ≡ false → Takes tapes lost input node node outputs
  unheard_takes lost is runs = subst (λ b. Takes tapes b input node node outputs) (sym is) (record { runs = runs; still = runs; same = refl; kept = λ h. refl; quiet = quiet })

-- what a node takes, by other names of its result and its messages
pub takes_as : {T : Type 0} (tapes : Tape T) (input : Input Definition) (node after : Node T) (lost now : Bool) (outputs sent : List Message) → now ≡ lost → sent ≡ outputs →
    Takes tapes lost input node after outputs → Takes tapes now input node after sent
takes_as tapes input node after lost now outputs sent is same takes =
    subst (λ b. Takes tapes b input node after sent) (sym is) (subst (λ ms. Takes tapes lost input node after ms) (sym same) takes)

-- ---- prefixes of published lists

pub begins_itself : {A : Type 0} (xs : List A) → IsBeginning xs xs
begins_itself xs = ([], append-nil xs)

module _ (stored : DurableState Definition) where
  accepted_begins : (s : ℕ) (b : Ballot) (d : Definition) (is_open : Bool) → nat_lt (published stored) s ≡ is_open → IsBeginning stored.history (with_record stored (part.Accepted s b d)).history
  unfolding with_record
  accepted_begins s b d true e = rw e (begins_itself stored.history)
  accepted_begins s b d false e = rw e (begins_itself stored.history)

  record_begins : (r : Record Definition) → IsBeginning stored.history (with_record stored r).history
  unfolding with_record
  record_begins (part.Tried r) = begins_itself stored.history
  record_begins (part.Promised s b) = begins_itself stored.history
  record_begins (part.Accepted s b d) = accepted_begins s b d (nat_lt (published stored) s) refl
  record_begins (part.Published s d) = (d ∷ [], refl)

  store_begins : (entry : Option (Record Definition)) → IsBeginning stored.history (store stored entry).history
  unfolding store
  store_begins None = begins_itself stored.history
  store_begins (Some r) = record_begins r

-- ---- a node and the node of the model

module _ {T : Type 0} where
  abbrev shown_of : Node T → world.Node Definition
  shown_of node = node_of (stored_of node) (Some (volatile_of node))

  abbrev the_turn : Node T → Input Definition → Turn Definition
  the_turn node input = record { stored = stored_of node; transition = transition_of node input }

  -- the turn of a running node
  goes_of : (node : Node T) (input : Input Definition) → step_rejection_at node input ≡ None → turn_of definition_eq node.n node.id (Some (shown_of node)) (Some input) ≡ Some (the_turn node input)
  goes_of node input goes = turn_goes definition_eq node.n node.id (stored_of node) (volatile_of node) input goes

  module _ (stands : DurableState Definition → Type 0) where
    pub is_running : (node : Node T) (x : world.Node Definition) → node.halted ≡ false → ShowsNode stands node x → x ≡ shown_of node
    is_running node x runs is = subst (λ b. IsNodeBy b stands node x) runs is

    pub running_is : (node : Node T) (x : world.Node Definition) → node.halted ≡ false → x ≡ shown_of node → ShowsNode stands node x
    running_is node x runs is = subst (λ b. IsNodeBy b stands node x) (sym runs) is

    -- A node that is unchanged but for its tape, and runs.
    spared_is : (node after : Node T) (x : world.Node Definition) → node.halted ≡ false → after.halted ≡ false → IsSameNode node after → ShowsNode stands node x → ShowsNode stands after x
    spared_is node after x runs runs_after same is =
        running_is after x runs_after (is_running node x runs is ∙ node_eq _ _ _ _ (sym (ap stored_of same)) (ap Some (sym (ap volatile_of same))))

    -- a node after its turn
    stepped_is : (node after : Node T) (input : Input Definition) (outputs : List Message) → IsTransition node (transition_of node input) outputs after → ShowsNode stands after (node_of (stored_after (the_turn node input)) (Some (transition_of node input).volatile))
    unfolding stored_after
    stepped_is node after input outputs is = running_is after _ is.running (node_eq _ _ _ _ (sym is.stored) (ap Some (sym is.volatile)))

    -- A node whose tape failed: the list that it reports as published is a prefix of what it stored
    -- before, and so of what it may have stored.
    failed_is : (node after : Node T) (stored : DurableState Definition) → after.halted ≡ true → IsSameNode node after → IsBeginning (stored_of node).history stored.history → stands stored → ShowsNode stands after (node_of stored None)
    failed_is node after stored halts same begins has =
        subst (λ b. IsNodeBy b stands after (node_of stored None)) (sym halts)
        (refl, subst (λ (ds : List Definition). IsBeginning ds stored.history) (sym (ap (λ (y : Node T). y.parts.history) same)) begins, has)

-- ---- one step

-- The nodes and the messages still show the world; or the world after the action of node i,
-- complete or crashed within.
pub data IsActed {T : Type 0} (stands : ℕ → DurableState Definition → Type 0) (i : ℕ) (action : Action Definition ℕ) (w : World Definition) (nodes : List (Node T)) (sent : List Message) : Type 0 where
  Stays : Refines stands nodes sent w → IsActed stands i action w nodes sent
  Acts : Refines stands nodes sent (after_turn w i (turn definition_eq w i action)) → IsActed stands i action w nodes sent
  Tears : (kept : Kept) → Refines stands nodes sent (after_torn w i kept (turn definition_eq w i action)) → IsActed stands i action w nodes sent

module _ {T : Type 0} (stands : ℕ → DurableState Definition → Type 0) (nodes : List (Node T)) where
  -- node i is now another node of the model
  set_nodes : (xs : List (world.Node Definition)) (i : ℕ) (node after : Node T) (x : world.Node Definition) → slice_get nodes i ≡ Some node → AreNodes stands nodes xs → ShowsNode (stands i) after x →
      AreNodes stands (slice_set nodes i after) (slice_set xs i x)
  set_nodes xs i node after x at are is = record {
    as_many = length-set xs i x ∙ are.as_many ∙ sym (length-set nodes i after);
    node_is = λ j n e. elim (cases_eq j i) [
      | inl same ↦
          let here = are.node_is i node at in
          let it : after ≡ n = get_set_same nodes i after node n at (subst (λ k. slice_get (slice_set nodes i after) k ≡ Some n) same e) in (
            x,
            subst (λ k. slice_get (slice_set xs i x) k ≡ Some x) (sym same) (set_there xs i x here.0 here.1),
            subst (λ k. ShowsNode (stands k) n x) (sym same) (subst (λ m. ShowsNode (stands i) m x) it is),
          )
      | inr differs ↦
          let there = are.node_is j n (sym (get_set_other nodes i j after differs) ∙ e) in
          (there.0, get_set_other xs i j x differs ∙ there.1, there.2)
    ];
  }

  -- A node is replaced by one that is the same node of the model.
  set_same_nodes : (xs : List (world.Node Definition)) (i : ℕ) (node after : Node T) → slice_get nodes i ≡ Some node → AreNodes stands nodes xs →
      ((x : world.Node Definition) → ShowsNode (stands i) node x → ShowsNode (stands i) after x) → AreNodes stands (slice_set nodes i after) xs
  set_same_nodes xs i node after at are keeps = record {
    as_many = are.as_many ∙ sym (length-set nodes i after);
    node_is = λ j n e. elim (cases_eq j i) [
      | inl same ↦
          let here = are.node_is i node at in
          let it : after ≡ n = get_set_same nodes i after node n at (subst (λ k. slice_get (slice_set nodes i after) k ≡ Some n) same e) in (
            here.0,
            subst (λ k. slice_get xs k ≡ Some here.0) (sym same) here.1,
            subst (λ k. ShowsNode (stands k) n here.0) (sym same) (subst (λ m. ShowsNode (stands i) m here.0) it (keeps here.0 here.2)),
          )
      | inr differs ↦ are.node_is j n (sym (get_set_other nodes i j after differs) ∙ e)
    ];
  }

  -- If nothing is sent, the messages are unchanged.
  nothing_more : {after : List (Node T)} {sent outputs : List Message} {w : World Definition} → outputs ≡ [] → Refines stands after sent w → Refines stands after (sent ++ outputs) w
  nothing_more {after} {sent} {outputs} {w} quiet refines = subst (λ ms. Refines stands after ms w) (sym (ap (λ ms. sent ++ ms) quiet ∙ append-nil sent)) refines

  module _ (sent : List Message) (i : ℕ) (node after : Node T) (action : Action Definition ℕ) (input : Input Definition) (at : slice_get nodes i ≡ Some node)
      (given : input_of (map message.view sent) action ≡ Some input) (turns : StandInTurn nodes) where
    -- The turn of the world's node is that of the node.
    turn_here : (w : World Definition) → Refines stands nodes sent w → node.halted ≡ false → step_rejection_at node input ≡ None → turn definition_eq w i action ≡ Some (the_turn node input)
    unfolding StandAmong
    turn_here w refines runs goes =
        let here = refines.nodes_are.node_is i node at in
        turn_is definition_eq w (length nodes) i here.0 action input refines.nodes_are.as_many here.1 (ap (λ ms. input_of ms action) refines.messages ∙ given)
        ∙ ap (λ x. turn_of definition_eq (length nodes) i (Some x) (Some input)) (is_running (stands i) node here.0 runs here.2)
        ∙ ap (λ n. turn_of definition_eq n i (Some (shown_of node)) (Some input)) (sym (turns i node at).1)
        ∙ ap (λ j. turn_of definition_eq node.n j (Some (shown_of node)) (Some input)) (sym (turns i node at).0)
        ∙ goes_of node input goes

    -- Nothing is sent, and the node is the same node of the model.
    keeps_shown : (w : World Definition) → ((x : world.Node Definition) → ShowsNode (stands i) node x → ShowsNode (stands i) after x) → Refines stands nodes sent w → Refines stands (slice_set nodes i after) sent w
    keeps_shown w keeps refines = record { nodes_are = set_same_nodes w.nodes i node after at refines.nodes_are keeps; messages = refines.messages }

    pub steps_shown : (w : World Definition) (outputs : List Message) → node.halted ≡ false → step_rejection_at node input ≡ None → IsTransition node (transition_of node input) outputs after → Refines stands nodes sent w →
        Refines stands (slice_set nodes i after) (sent ++ outputs) (after_turn w i (turn definition_eq w i action))
    unfolding after_turn with_node stored_after
    steps_shown w outputs runs goes is refines =
        let t = the_turn node input in
        subst (Refines stands (slice_set nodes i after) (sent ++ outputs)) (sym (ap (after_turn w i) (turn_here w refines runs goes)))
        (record {
          nodes_are = set_nodes w.nodes i node after (node_of (stored_after t) (Some t.transition.volatile)) at refines.nodes_are (stepped_is (stands i) node after input outputs is);
          messages = ap (λ ms. ms ++ t.transition.messages) refines.messages ∙ ap (λ ms. map message.view sent ++ ms) (sym is.messages) ∙ sym (map-append message.view sent outputs);
        })

    -- A step within which the tape failed is a crash within the step: the durable state before or
    -- after was kept.
    torn_shown : (w : World Definition) (kept : Kept) → node.halted ≡ false → step_rejection_at node input ≡ None → after.halted ≡ true → IsSameNode node after →
        IsBeginning (stored_of node).history (kept_part kept (the_turn node input)).history → stands i (kept_part kept (the_turn node input)) → Refines stands nodes sent w →
        Refines stands (slice_set nodes i after) sent (after_torn w i kept (turn definition_eq w i action))
    unfolding after_torn with_node
    torn_shown w kept runs goes halts same begins has refines =
        let t = the_turn node input in
        subst (Refines stands (slice_set nodes i after) sent) (sym (ap (after_torn w i kept) (turn_here w refines runs goes)))
        (record {
          nodes_are = set_nodes w.nodes i node after (node_of (kept_part kept t) None) at refines.nodes_are (failed_is (stands i) node after (kept_part kept t) halts same begins has);
          messages = refines.messages;
        })

    unchanged_shown : (w : World Definition) (outputs : List Message) → after ≡ node → outputs ≡ [] → Refines stands nodes sent w → IsActed stands i action w (slice_set nodes i after) (sent ++ outputs)
    unchanged_shown w outputs same quiet refines = Stays (nothing_more quiet (keeps_shown w (λ x is. subst (λ n. ShowsNode (stands i) n x) (sym same) is) refines))

    fails_shown : (w : World Definition) (outputs : List Message) → node.halted ≡ false → step_rejection_at node input ≡ None → after.halted ≡ true → IsSameNode node after → outputs ≡ [] →
        stands i (stored_of node) ⊎ stands i (store (stored_of node) (transition_of node input).entry) → Refines stands nodes sent w → IsActed stands i action w (slice_set nodes i after) (sent ++ outputs)
    unfolding kept_part stored_after
    fails_shown w outputs runs goes halts same quiet (inl before) refines =
        Tears Before (nothing_more quiet (torn_shown w Before runs goes halts same (begins_itself (stored_of node).history) before refines))
    fails_shown w outputs runs goes halts same quiet (inr later) refines =
        Tears After (nothing_more quiet (torn_shown w After runs goes halts same (store_begins (stored_of node) (transition_of node input).entry) later refines))

    -- Whatever a node does with the action's input, the world is unchanged, or acts so.
    pub takes_acts : (tapes : Tape T) (outputs : List Message) (lost : Bool) → Takes tapes lost input node after outputs →
        (after.halted ≡ true → (tapes.durable → EachStandsFor (stored_of node) (store (stored_of node) (transition_of node input).entry) (tapes.images after.tape)) → stands i (stored_of node) ⊎ stands i (store (stored_of node) (transition_of node input).entry)) →
        (w : World Definition) → Refines stands nodes sent w → IsActed stands i action w (slice_set nodes i after) (sent ++ outputs)
    takes_acts tapes outputs true is torn w refines =
        Stays (nothing_more is.quiet (keeps_shown w (λ x was. spared_is (stands i) node after x is.runs is.still is.same was) refines))
    takes_acts tapes outputs false (giving.Halts halted same quiet) torn w refines = unchanged_shown w outputs same quiet refines
    takes_acts tapes outputs false (giving.Rejects why runs refused same quiet) torn w refines = unchanged_shown w outputs same quiet refines
    takes_acts tapes outputs false (giving.Steps runs goes is grown) torn w refines = Acts (steps_shown w outputs runs goes is refines)
    takes_acts tapes outputs false (giving.Fails runs goes halts same keeps part each quiet) torn w refines = fails_shown w outputs runs goes halts same quiet (torn halts each) refines

-- ---- what is unchanged

module _ {T : Type 0} (tapes : Tape T) (node after : Node T) (input : Input Definition) (outputs : List Message) where
  pub stays_halted : (lost : Bool) → Takes tapes lost input node after outputs → node.halted ≡ true → after ≡ node
  stays_halted true is halted = absurd (both_ways node.halted is.runs halted)
  stays_halted false (giving.Halts was same quiet) halted = same
  stays_halted false (giving.Rejects why runs refused same quiet) halted = same
  stays_halted false (giving.Steps runs goes is grown) halted = absurd (both_ways node.halted runs halted)
  stays_halted false (giving.Fails runs goes halts same keeps part each quiet) halted = absurd (both_ways node.halted runs halted)

  by_itself : after ≡ node → (after.id ≡ node.id) × (after.n ≡ node.n) × IsGrown node.parts.history after.parts.history
  by_itself same =
      (ap (λ (y : Node T). y.id) same, ap (λ (y : Node T). y.n) same, subst (λ (y : Node T). IsGrown node.parts.history y.parts.history) (sym same) (grown_itself node.parts.history))

  but_for_tape : IsSameNode node after → (after.id ≡ node.id) × (after.n ≡ node.n) × IsGrown node.parts.history after.parts.history
  but_for_tape same = (ap (λ (y : Node T). y.id) same, ap (λ (y : Node T). y.n) same, same_grown node after same)

  pub stays_itself : (lost : Bool) → Takes tapes lost input node after outputs → (after.id ≡ node.id) × (after.n ≡ node.n) × IsGrown node.parts.history after.parts.history
  stays_itself true is = but_for_tape is.same
  stays_itself false (giving.Halts halted same quiet) = by_itself same
  stays_itself false (giving.Rejects why runs refused same quiet) = by_itself same
  stays_itself false (giving.Steps runs goes is grown) = (is.id, is.n, transition_grown node after (transition_of node input) outputs is)
  stays_itself false (giving.Fails runs goes halts same keeps part each quiet) = but_for_tape same

module _ {T : Type 0} (nodes : List (Node T)) (i : ℕ) (node after : Node T) (at : slice_get nodes i ≡ Some node) where
  pub keeps_halted : (node.halted ≡ true → after ≡ node) → KeepHalted nodes (slice_set nodes i after)
  unfolding KeepHalted
  keeps_halted stays = λ j n e halted. elim (cases_eq j i) [
    | inl same ↦
        let it : node ≡ n = same_Some node n (sym at ∙ subst (λ k. slice_get nodes k ≡ Some n) same e) in
        let as_before : after ≡ n = stays (subst (λ (y : Node T). y.halted ≡ true) (sym it) halted) ∙ it in
        subst (λ k. slice_get (slice_set nodes i after) k ≡ Some n) (sym same) (set_there nodes i after node at ∙ ap Some as_before)
    | inr differs ↦ get_set_other nodes i j after differs ∙ e
  ]

-- what may be left of a failed node's tape, at its index
pub left_here : {T : Type 0} (tapes : Tape T) (nodes : List (Node T)) (left : ℕ → List ℕ) (i : ℕ) (node after : Node T) → slice_get nodes i ≡ Some node → MayLeaveOfEach tapes (slice_set nodes i after) left →
    after.halted ≡ true → tapes.images after.tape (left i)
unfolding MayLeaveOfEach
left_here tapes nodes left i node after at may halts = may i after (set_there nodes i after node at) halts

-- ---- one delivery

-- No event, or that delivery, leads to what a delivery leaves.
delivered_one : {T : Type 0} (stands : ℕ → DurableState Definition → Type 0) (i k : ℕ) (w : World Definition) (nodes : List (Node T)) (sent : List Message) → IsActed stands i (table.Deliver k) w nodes sent →
    Refines stands nodes sent w ⊎ ((event : Event Definition) × IsDelivery event × Refines stands nodes sent (happens definition_eq w event))
unfolding happens
delivered_one stands i k w nodes sent (Stays refines) = inl refines
delivered_one stands i k w nodes sent (Acts refines) = inr (deliver i k, tt, refines)
delivered_one stands i k w nodes sent (Tears kept refines) = inr (Torn i (table.Deliver k) kept, tt, refines)

module _ {T : Type 0} (tapes : Tape T) (nodes : List (Node T)) (sent : List Message) (i k : ℕ) (node after : Node T) (m : Message) (outputs : List Message)
    (at : slice_get nodes i ≡ Some node) (there : slice_get sent k ≡ Some m) (turns : StandInTurn nodes) where
  abbrev received : Input Definition
  received = table.Deliver (message.view m)

  takes_one : (stands : ℕ → DurableState Definition → Type 0) (lost : Bool) → Takes tapes lost received node after outputs →
      (after.halted ≡ true → (tapes.durable → EachStandsFor (stored_of node) (store (stored_of node) (transition_of node received).entry) (tapes.images after.tape)) → stands i (stored_of node) ⊎ stands i (store (stored_of node) (transition_of node received).entry)) →
      TakeOne stands nodes sent (slice_set nodes i after) (sent ++ outputs)
  unfolding TakeOne
  takes_one stands lost takes torn = λ w refines.
      delivered_one stands i k w (slice_set nodes i after) (sent ++ outputs)
      (takes_acts stands nodes sent i node after (table.Deliver k) received at (sent_message sent k m there) turns tapes outputs lost takes torn w refines)

  -- One delivery to one of the nodes.
  pub one_delivery : (lost : Bool) → Takes tapes lost received node after outputs → IsOne tapes nodes sent (slice_set nodes i after) (sent ++ outputs)
  one_delivery lost takes = record {
    any = takes_one AnyPart lost takes (λ halts each. inl tt);
    on_tape = λ h left may. takes_one (StandFor left) lost takes (λ halts each. each h (left i) (left_here tapes nodes left i node after at may halts));
    halted = keeps_halted nodes i node after at (stays_halted tapes node after received outputs lost takes);
    turn = keeps_turn nodes i node after at (stays_itself tapes node after received outputs lost takes);
  }

  -- So it is handed over.
  pub given_to : (lost : Bool) → Takes tapes lost received node after outputs → (lost ≡ true → MayBeLost m node) → IsGiven tapes i k lost nodes sent (slice_set nodes i after) (sent ++ outputs)
  given_to lost takes cause = (
    one_delivery lost takes,
    record { node = node; after = after; handed = m; outputs = outputs; at = at; there = there; takes = takes; cause = cause; nodes_are = refl; sent_are = refl },
  )

-- ---- many deliveries

deliveries_more : (events : List (Event Definition)) (event : Event Definition) → AreDeliveries events → IsDelivery event → AreDeliveries (events ++ event ∷ [])
unfolding AreDeliveries
deliveries_more [] event are is = (is, tt)
deliveries_more (first ∷ events) event are is = (are.0, deliveries_more events event are.1 is)

no_events : AreDeliveries []
unfolding AreDeliveries
no_events = tt

-- The empty list of deliveries leads from a world to itself.
pub reaches_nowhere : {T : Type 0} (stands : ℕ → DurableState Definition → Type 0) (nodes : List (Node T)) (sent : List Message) → ReachByDeliveries stands 0 nodes sent nodes sent
unfolding ReachByDeliveries steps
reaches_nowhere stands nodes sent = λ w refines. record { events = []; deliveries = no_events; at_most = omega arith; refines = refines }

module _ {T : Type 0} (stands : ℕ → DurableState Definition → Type 0) (w : World Definition) (done : ℕ) (middle after : List (Node T)) (outputs more : List Message) where
  reachable_on : (reachable : IsReachableByDeliveries stands w done middle outputs) →
      Refines stands after more (steps definition_eq w reachable.events) ⊎ ((event : Event Definition) × IsDelivery event × Refines stands after more (happens definition_eq (steps definition_eq w reachable.events) event)) →
      IsReachableByDeliveries stands w (done + 1) after more
  reachable_on reachable (inl refines) = record { events = reachable.events; deliveries = reachable.deliveries; at_most = omega (arith, reachable.at_most); refines = refines }
  reachable_on reachable (inr found) = record {
    events = reachable.events ++ found.0 ∷ [];
    deliveries = deliveries_more reachable.events found.0 reachable.deliveries found.1;
    at_most = omega (arith, length-append reachable.events (found.0 ∷ []), reachable.at_most);
    refines = subst (Refines stands after more) (sym (steps_more w reachable.events found.0)) found.2;
  }

module _ {T : Type 0} (stands : ℕ → DurableState Definition → Type 0) (done : ℕ) (nodes middle after : List (Node T)) (sent outputs more : List Message) where
  reaches_on : ReachByDeliveries stands done nodes sent middle outputs → TakeOne stands middle outputs after more → ReachByDeliveries stands (done + 1) nodes sent after more
  unfolding ReachByDeliveries TakeOne
  reaches_on reaches takes = λ w refines.
      let reachable = reaches w refines in
      reachable_on stands w done middle after outputs more reachable (takes (steps definition_eq w reachable.events) reachable.refines)

-- Bytes that may be left of the tapes that failed could have been left before a delivery: such a
-- tape is unchanged.
pub left_before : {T : Type 0} (tapes : Tape T) (nodes after : List (Node T)) (left : ℕ → List ℕ) → KeepHalted nodes after → MayLeaveOfEach tapes after left → MayLeaveOfEach tapes nodes left
unfolding MayLeaveOfEach KeepHalted
left_before tapes nodes after left keeps may = λ i node at halted. may i node (keeps i node at halted) halted

-- ---- the rounds

module _ {T : Type 0} (tapes : Tape T) (nodes : List (Node T)) (messages : List Message) where
  -- Nothing is delivered yet.
  pub come_start : ComeSoFar tapes nodes messages (record { whole = 0; some = 0; done = 0 }) 0 nodes messages
  come_start = record {
    any = reaches_nowhere AnyPart nodes messages;
    on_tape = λ h left may. reaches_nowhere (StandFor left) nodes messages;
    halted = halted_itself nodes;
    turn = keeps_turn_itself nodes;
    order = First;
  }

  module _ (p : PumpProgress) (lost : ℕ) (loses : Bool) (middle after : List (Node T)) (outputs more : List Message) where
    -- One more delivery.
    pub come_on : ComeSoFar tapes nodes messages p lost middle outputs → IsOne tapes middle outputs after more → IsHanded tapes p.some p.whole loses middle outputs after more →
        ComeSoFar tapes nodes messages (next (length nodes) p) (counted lost loses) after more
    come_on come one handed = record {
      any = subst (λ d. ReachByDeliveries AnyPart d nodes messages after more) (sym (done_on (length nodes) p)) (reaches_on AnyPart p.done nodes middle after messages outputs more come.any one.any);
      on_tape = λ h left left_after.
          subst (λ d. ReachByDeliveries (StandFor left) d nodes messages after more) (sym (done_on (length nodes) p))
          (reaches_on (StandFor left) p.done nodes middle after messages outputs more (come.on_tape h left (left_before tapes middle after left one.halted left_after)) (one.on_tape h left left_after));
      halted = halted_twice nodes middle after come.halted one.halted;
      turn = keeps_turn_twice nodes middle after come.turn one.turn;
      order = Next p lost loses middle after outputs more come.order handed;
    }

  -- The deliveries lead to what they left, and were made in this order.
  module _ (p : PumpProgress) (lost : ℕ) (after : List (Node T)) (more : List Message) (come : ComeSoFar tapes nodes messages p lost after more) (counts : AreCounted (length nodes) 0 p lost (length more)) where
    pub come_done : IsDelivered tapes nodes messages p.done after
    come_done = record {
      any = record { sent = more; reach = come.any };
      on_tape = λ h left may. record { sent = more; reach = come.on_tape h left may };
      halted = come.halted;
      turn = come.turn;
      most = counts.most;
    }

    end_by : (left : Bool) → nat_lt p.whole (length more) ≡ left → IsDeliveryEnd left p more
    end_by true is = grind (arith, nat_tests)
    end_by false is =
        let all : length more ≤ p.whole = grind (arith, nat_tests) in
        let none = none_begun (length nodes) 0 p lost (length more) counts (omega (arith, all)) in
        (none.0, omega (arith, none.1))

    pub handed_out : (stopped : Bool) (count : ℕ) → count ≡ length more → stopped ≡ nat_lt p.whole count → AreHandedOut tapes nodes messages p.done lost stopped after
    handed_out stopped count all is = record {
      come = p;
      sent = more;
      handed = come.order;
      count = refl;
      ended = subst (λ b. IsDeliveryEnd b p more) (sym (is ∙ ap (nat_lt p.whole) all)) (end_by (nat_lt p.whole (length more)) refl);
    }

-- ---- entries that were changed one after the other

pub changed_twice : {E : Type 0} (keeps : E → E → Type 0) (before middle after : List E) → AreChanged keeps before middle → AreChanged keeps middle after → AreChanged keeps before after
changed_twice keeps before middle after first Unchanged = first
changed_twice keeps before middle after first (Changed others i entry next second at kept) = Changed others i entry next (changed_twice keeps before middle others first second) at kept
