-- A step that a node in memory takes: what becomes of its entry, and of the world.
use Rattle.std.proofs.Common.{◌≡◌, ◌∙◌, ℕ, zero, suc, Bool, true, false, is_some, List, [], ◌∷◌, ◌++◌, ◌≤◌, ◌<◌, arith, get_or, length, map, slice_get, slice_set, Option, Some, None, refl, sym, ap, subst}
use Rattle.wf_farm.proofs.Common.{both_ways, map-append, none-some, same_Some, slice_get_within, Message, Definition, definition_eq, DurableState, Record, Action, Input, at_start, World, Turn, after_restart, after_torn, after_turn, happens, input_of, kept_part, refused, rejected_at, steps, stored_after, turn, turn_of, with_node, Kept, IsSettled, AllStandFor, EachIsCut, Node, stored_of, volatile_of, IsTransition, step_rejection_at, transition_of, stored_next, TapeValue, IsImageNow, NeverFails, with_fuse, Running, Stopped, MayAllocate, may_allocate, ChangesByEvent, KeepMembers, Moves, reported, FailsOnly, IsHappened, TearsAt, TearsOnly, crash_within, step_of, Takes, MemoryHost, IsHostOf, HostsNode, KeepsMember, KeepsSturdy, HostStays, Stops, set_there, Fares, Goes, GoesThere, IsCutTape, IsTornTo, received_as, stored_by, node_restarted, volatile_restarted, set_twice}
use Rattle.wf_codec.specs.Message as message
use Rattle.wf_model.specs.Kept.{view as view_kept}
use Rattle.wf_model.specs.World as world
use Rattle.wf_tape.specs.declared.tape.Tape.{Ghosts as Tape}
use Rattle.wf_farm.specs.declared.fate.Fate.{Fate}
use Rattle.wf_farm.specs.declared.fate.Fate.TheVariants as fate
use Rattle.wf_farm.specs.Cluster.{Refines}
use Rattle.wf_delivery.specs.NodeInput as giving
use Rattle.wf_delivery.proofs.Deliveries.{stays_itself}
use Rattle.wf_farm.proofs.Events.{as_many, node_at, host_keeps, set_nodes}
use Rattle.wf_delivery.proofs.Stored.{node_eq, node_of}
use Rattle.wf_farm.proofs.Steps.{same_stays, shown, stops_member}
use Rattle.wf_delivery.proofs.Turns.{rejected_is, restart_sets, running_step_rejection, turn_goes, turn_is, world_of}

-- reading an entry that was set
pub set_read : {A : Type 0} (xs : List A) (i : ℕ) (x y : A) → i < length xs → y ≡ get_or (slice_set xs i x) i y → y ≡ x
set_read [] i x y within read = absurd (omega (arith, within))
set_read (z ∷ xs) zero x y within read = read
set_read (z ∷ xs) (suc i) x y within read = set_read xs i x y (omega (arith, within)) read

-- ---- the node

-- What a node does with an input that it takes: it steps, or its tape fails, or the input is lost.
module _ {T : Type 0} (tapes : Tape T) (node after : Node T) (input : Input Definition) (outputs : List Message) (runs : node.halted ≡ false) (goes : step_rejection_at node input ≡ None) where
  pub taken_transition : (lost : Bool) → Takes tapes lost input node after outputs → lost ≡ false → after.halted ≡ false → IsTransition node (transition_of node input) outputs after
  taken_transition true takes kept still = absurd (both_ways true kept refl)
  taken_transition false (giving.Halts halted same quiet) kept still = absurd (both_ways node.halted runs halted)
  taken_transition false (giving.Rejects why is refused same quiet) kept still = absurd (none-some why (sym goes ∙ refused))
  taken_transition false (giving.Steps is free transition grown) kept still = transition
  taken_transition false (giving.Fails is free halts same keeps part each quiet) kept still = absurd (both_ways after.halted still halts)

module _ (node after : Node TapeValue) (input : Input Definition) (outputs : List Message) (tapes : Tape TapeValue) where
  -- A node that took a step, or lost its input.
  pub taken_fares : (lost : Bool) → Takes tapes lost input node after outputs → lost ≡ true → HostStays (Running node) (Running after)
  taken_fares true takes is = same_stays node after takes.same
  taken_fares false takes is = absurd (both_ways false refl is)

-- A node that doesn't halt is a member still.
pub taken_member : (node after : Node TapeValue) (input : Input Definition) (outputs : List Message) (memory : Tape TapeValue) (lost : Bool) → Takes memory lost input node after outputs → after.halted ≡ false →
    KeepsMember (Running node) (Running after)
unfolding KeepsMember
taken_member node after input outputs memory lost takes still =
    let stays = stays_itself memory node after input outputs lost takes in
    λ n i member. (stays.0 ∙ member.0, stays.1 ∙ member.1, still)

-- What a crash within a step left.
pub torn_fares : (node : Node TapeValue) (input : Input Definition) (what : Fate) (host : MemoryHost) → (NeverFails node.tape → ⊥) → IsTornTo (stored_of node) (stored_next node input) what host → Fares input what (Running node) host
torn_fares node input (fate.Torn kept) host fails torn = (fails, torn)
torn_fares node input (fate.Done outputs) host fails torn = absurd torn
torn_fares node input fate.Lost host fails torn = λ never. absurd (fails never)

-- The node once its failure is taken away.
module _ (node after laid : Node TapeValue) (input : Input Definition) (outputs : List Message) (memory : Tape TapeValue) (lost : Bool) (takes : Takes memory lost input node after outputs)
    (is : laid ≡ record after { tape = with_fuse 0 0 after.tape }) where
  laid_id : laid.id ≡ node.id
  laid_id = ap (λ (x : Node TapeValue). x.id) is ∙ (stays_itself memory node after input outputs lost takes).0

  laid_n : laid.n ≡ node.n
  laid_n = ap (λ (x : Node TapeValue). x.n) is ∙ (stays_itself memory node after input outputs lost takes).1

  pub laid_within : Goes input (Running node) → (laid.n ≤ 64) × (laid.id < laid.n)
  laid_within goes = (omega (arith, laid_n, goes.1), omega (arith, laid_n, laid_id, goes.2))

  pub laid_member : (host : MemoryHost) → IsHostOf laid.n laid.id host → KeepsMember (Running node) host
  unfolding KeepsMember
  laid_member host member = λ n i was. subst (λ m. IsHostOf m i host) (laid_n ∙ was.1) (subst (λ j. IsHostOf laid.n j host) (laid_id ∙ was.0) member)

-- The tape that a failed step left was cut.
each_only : (entry : Option (Record Definition)) (before after : DurableState Definition) (content : List ℕ) (old images : List ℕ → Type 0) → ((image : List ℕ) → old image → image ≡ content) →
    EachIsCut entry before after old images → EachIsCut entry before after (λ image. image ≡ content) images
each_only None before after content old images only each = each
each_only (Some r) before after content old images only each = λ image left. let cut = each image left in (cut.0, only cut.0 cut.1, cut.2)

pub tape_cut : (long : ℕ) (entry : Option (Record Definition)) (before after : DurableState Definition) (tape left : TapeValue) → IsSettled tape.bytes (IsImageNow tape) → long ≡ length tape.bytes →
    EachIsCut entry before after (IsImageNow tape) (IsImageNow left) → IsCutTape long entry before after left
tape_cut long entry before after tape left settled is_long each = record {
  content = tape.bytes;
  records = settled.0;
  are_records = settled.1.are_records;
  is_long = sym is_long;
  cut = each_only entry before after tape.bytes (IsImageNow tape) (IsImageNow left) settled.1.only.no_other each;
}

-- ---- the world

module _ (hosts : List MemoryHost) (sent : List Message) (i : ℕ) (action : Action Definition ℕ) (input : Input Definition) (given : input_of (map message.view sent) action ≡ Some input) (there : GoesThere i input hosts) where
  abbrev node : Node TapeValue
  node = there.node

  abbrev the_turn : Turn Definition
  the_turn = record { stored = stored_of node; transition = transition_of node input }

  module _ (w : World Definition) (refines : Refines hosts sent w) where
    here : slice_get w.nodes i ≡ Some (shown node)
    here = let found = node_at hosts w.nodes i (Running node) refines.nodes there.at in found.1 ∙ ap Some found.2

    given_in : input_of w.sent action ≡ Some input
    given_in = ap (λ ms. input_of ms action) refines.messages ∙ given

    takes : turn definition_eq w i action ≡ Some the_turn
    takes =
        turn_is definition_eq w (length hosts) i (shown node) action input (as_many hosts w.nodes refines.nodes) here given_in
        ∙ ap (λ n. turn_of definition_eq n i (Some (shown node)) (Some input)) (sym there.member.1)
        ∙ ap (λ j. turn_of definition_eq node.n j (Some (shown node)) (Some input)) (sym there.member.0)
        ∙ turn_goes definition_eq node.n node.id (stored_of node) (volatile_of node) input there.goes

    free : None ≡ reported (rejected_at w i action)
    free = sym (ap reported (rejected_is w i (shown node) action input here given_in ∙ running_step_rejection (stored_of node) (volatile_of node) input ∙ there.goes))

    -- The world with another node there.
    set_shown : (host : MemoryHost) (x : world.Node Definition) → HostsNode host x → Refines (slice_set hosts i host) sent (world_of (slice_set w.nodes i x) w.sent)
    set_shown host x is = record { nodes = set_nodes hosts w.nodes i host x refines.nodes is; messages = refines.messages }

  -- The whole step.
  whole_step : (next : Node TapeValue) (outputs : List Message) → IsTransition node (transition_of node input) outputs next →
      IsHappened (world.Act i action) (record { why = None; torn = None }) hosts sent (slice_set hosts i (Running next)) (sent ++ outputs)
  unfolding happens refused after_turn with_node stored_after
  whole_step next outputs transition = record {
    reaches = λ w refines. subst (Refines (slice_set hosts i (Running next)) (sent ++ outputs)) (sym (ap (after_turn w i) (takes w refines))) (record {
      nodes = (set_shown w refines (Running next) (node_of (stored_after the_turn) (Some (transition_of node input).volatile)) (node_eq _ _ _ _ (sym transition.stored) (ap Some (sym transition.volatile)))).nodes;
      messages = ap (λ ms. ms ++ (transition_of node input).messages) refines.messages ∙ ap (λ ms. map message.view sent ++ ms) (sym transition.messages) ∙ sym (map-append message.view sent outputs);
    });
    why = λ w refines. free w refines;
  }

  -- The node stops before the step or after it, and sends nothing.
  stopped_step : (kept : world.Kept) (left : TapeValue) → AllStandFor (kept_part kept the_turn) (IsImageNow left) →
      IsHappened (world.Torn i action kept) (record { why = None; torn = None }) hosts sent (slice_set hosts i (Stopped left)) sent
  unfolding happens refused after_torn with_node
  stopped_step kept left stands = record {
    reaches = λ w refines. subst (Refines (slice_set hosts i (Stopped left)) sent) (sym (ap (after_torn w i kept) (takes w refines))) (set_shown w refines (Stopped left) (node_of (kept_part kept the_turn) None) (refl, stands));
    why = λ w refines. free w refines;
  }

  -- A crash within the step, and a restart.
  part_is : (kept : world.Kept) → kept_part kept the_turn ≡ stored_by kept (stored_of node) (stored_next node input)
  unfolding kept_part stored_after
  part_is world.Before = refl
  part_is world.After = refl

  torn_moves : (kept : Kept) (again : Node TapeValue) → stored_of again ≡ stored_by (view_kept kept) (stored_of node) (stored_next node input) → volatile_of again ≡ at_start →
      Moves (crash_within (view_kept kept) (record { node = i; action = action })) hosts sent (slice_set hosts i (Running again)) sent
  unfolding Moves steps happens after_torn with_node node_restarted volatile_restarted
  torn_moves kept again holds idle = λ w refines.
      let k = view_kept kept in
      let x = node_of (kept_part k the_turn) None in
      let y = node_of (kept_part k the_turn) (Some at_start) in
      let torn = world_of (slice_set w.nodes i x) w.sent in
      let came : after_restart torn i (slice_get torn.nodes i) ≡ world_of (slice_set w.nodes i y) w.sent =
      restart_sets torn i x (set_there w.nodes i x (shown node) (here w refines)) ∙ ap (λ ns. world_of ns w.sent) (set_twice w.nodes i x y) in
      subst (Refines (slice_set hosts i (Running again)) sent) (sym (ap (λ (v : World Definition). after_restart v i (slice_get v.nodes i)) (ap (after_torn w i k) (takes w refines)) ∙ came))
      (set_shown w refines (Running again) y (node_eq _ _ _ _ (part_is k ∙ sym holds) (ap Some (sym idle))))

  pub torn_step : (kept : Kept) (after : MemoryHost) → IsTornTo (stored_of node) (stored_next node input) (fate.Torn kept) after → (received : Bool) →
      IsHappened (received_as received i action) (record { why = None; torn = Some kept }) hosts sent (slice_set hosts i after) sent
  unfolding step_of
  torn_step kept (Running again) torn true = record { reaches = torn_moves kept again torn.0 torn.1; why = refl }
  torn_step kept (Running again) torn false = record { reaches = torn_moves kept again torn.0 torn.1; why = refl }
  torn_step kept (Stopped left) torn received = absurd torn

  -- What becomes of the step, as an event.
  pub received_happens : (received : Bool) (outputs : List Message) (after : MemoryHost) → received ≡ true → (next : Node TapeValue) × (after ≡ Running next) × IsTransition node (transition_of node input) outputs next →
      IsHappened (received_as received i action) (record { why = None; torn = None }) hosts sent (slice_set hosts i after) (sent ++ outputs)
  received_happens received outputs after is done =
      subst (λ h. IsHappened (received_as h i action) (record { why = None; torn = None }) hosts sent (slice_set hosts i after) (sent ++ outputs)) (sym is)
      (subst (λ p. IsHappened (world.Act i action) (record { why = None; torn = None }) hosts sent (slice_set hosts i p) (sent ++ outputs)) (sym done.1) (whole_step done.0 outputs done.2))

  pub unheard_happens : (received : Bool) (outputs : List Message) (middle last : MemoryHost) → received ≡ false → (next : Node TapeValue) × (middle ≡ Running next) × IsTransition node (transition_of node input) outputs next →
      Stops middle last → IsHappened (received_as received i action) (record { why = None; torn = None }) hosts sent (slice_set (slice_set hosts i middle) i last) sent
  unfolding kept_part stored_after
  unheard_happens received outputs middle last is done stopped =
      let stops = subst (λ p. Stops p last) done.1 stopped in
      let left = stops.0 in
      subst (λ h. IsHappened (received_as h i action) (record { why = None; torn = None }) hosts sent (slice_set (slice_set hosts i middle) i last) sent) (sym is)
      (subst (λ ps. IsHappened (world.Torn i action world.After) (record { why = None; torn = None }) hosts sent ps sent) (sym (set_twice hosts i middle last ∙ ap (slice_set hosts i) stops.1))
      (stopped_step world.After left (subst (λ stored. AllStandFor stored (IsImageNow left)) done.2.stored (stops.2 done.2.running))))

  pub before_happens : (host last : MemoryHost) → slice_get hosts i ≡ Some host → Stops host last →
      IsHappened (world.Torn i action world.Before) (record { why = None; torn = None }) hosts sent (slice_set hosts i last) sent
  unfolding kept_part
  before_happens host last at stopped =
      let stops = subst (λ p. Stops p last) (same_Some host (Running node) (sym at ∙ there.at)) stopped in
      subst (λ p. IsHappened (world.Torn i action world.Before) (record { why = None; torn = None }) hosts sent (slice_set hosts i p) sent) (sym stops.1)
      (stopped_step world.Before stops.0 (stops.2 there.member.2))

  -- It may allocate, and the carrier is used for it.
  pub taken_may : (received : Bool) → MayAllocate (received_as received i action) hosts sent
  unfolding MayAllocate may_allocate
  taken_may true = λ w refines. ap is_some (takes w refines)
  taken_may false = λ w refines. ap is_some (takes w refines)

-- An entry that is changed, and then stopped.
pub stopped_keeps : (hosts : List MemoryHost) (i : ℕ) (host middle last : MemoryHost) → slice_get hosts i ≡ Some host → KeepsMember host middle → KeepsSturdy host middle → Stops middle last → KeepsSturdy middle last →
    KeepMembers hosts (slice_set (slice_set hosts i middle) i last)
unfolding KeepsMember
stopped_keeps hosts i host middle last at member sturdy stopped kept =
    subst (KeepMembers hosts) (sym (set_twice hosts i middle last))
    (host_keeps hosts i host last at (λ n j was. stops_member middle last stopped n j (member n j was)) (λ never. kept (sturdy never)))

-- a clause on a step that is taken, with the step as the event that it is
pub carrier_used : {C : Type 0} (event : world.Event Definition) (hosts : List MemoryHost) (sent : List Message) (before after : C) → MayAllocate event hosts sent → ChangesByEvent event hosts sent before after
unfolding MayAllocate ChangesByEvent
carrier_used event hosts sent before after may = λ w refines idle. absurd (both_ways (may_allocate w event) idle (may w refines))

pub tears_event : (received : Bool) (i : ℕ) (action : Action Definition ℕ) (torn : Option Kept) (hosts : List MemoryHost) → TearsAt torn i hosts → TearsOnly torn (received_as received i action) hosts
unfolding step_of
tears_event received i action None hosts tears = tt
tears_event true i action (Some kept) hosts tears = (i, (action, refl), tears)
tears_event false i action (Some kept) hosts tears = (i, (action, refl), tears)

-- The step in the entry.
pub goes_host : (hosts : List MemoryHost) (i : ℕ) (input : Input Definition) (host : MemoryHost) → length hosts ≤ 64 → slice_get hosts i ≡ Some host → GoesThere i input hosts → Goes input host
goes_host hosts i input host most at there =
    let within = slice_get_within hosts i host at in
    subst (Goes input) (same_Some (Running there.node) host (sym there.at ∙ at))
    (there.member.2, omega (arith, there.member.1, most), omega (arith, there.member.0, there.member.1, within), there.goes)

pub fares_there : (hosts : List MemoryHost) (i : ℕ) (input : Input Definition) (host after : MemoryHost) (what : Fate) (there : GoesThere i input hosts) → slice_get hosts i ≡ Some host → Fares input what host after →
    Fares input what (Running there.node) after
fares_there hosts i input host after what there at fares = subst (λ p. Fares input what p after) (same_Some host (Running there.node) (sym at ∙ there.at)) fares

-- Where an allocation failed, and no tape fails, the entry is what it was.
pub lost_host : (hosts : List MemoryHost) (i : ℕ) (input : Input Definition) (host after : MemoryHost) → slice_get hosts i ≡ Some host → Fares input fate.Lost host after → FailsOnly None hosts → HostStays host after
unfolding FailsOnly
lost_host hosts i input (Running node) after at fares sturdy = fares (sturdy i (Running node) at (λ is. none-some i is))
lost_host hosts i input (Stopped tape) after at fares sturdy = absurd fares

-- A step that was torn could be.
pub torn_there : (hosts : List MemoryHost) (i : ℕ) (input : Input Definition) (host after : MemoryHost) (kept : Kept) → slice_get hosts i ≡ Some host → Fares input (fate.Torn kept) host after → TearsAt (Some kept) i hosts
torn_there hosts i input (Running node) after kept at fares = (Running node, at, fares.0)
torn_there hosts i input (Stopped tape) after kept at fares = absurd fares
