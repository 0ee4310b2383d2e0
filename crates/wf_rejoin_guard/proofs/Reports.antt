-- What a message of a timeline says is published, some process had published by then.
use Rattle.std.proofs.Common.{◌≡◌, ℕ, zero, suc, ◌<◌, ◌≤◌, Bool, true, false, List, [], ◌∷◌, ◌++◌, map, take, Some, refl, sym, ap, subst, inl, inr, eq-eqb, ne_eqb, arith}
use Rattle.std.proofs.lemmas.Bool.{cases_eq}
use Rattle.std.proofs.lemmas.List.{map-append}
use Rattle.std.specs.Prelude.{⊤, ◌≢◌}
use Rattle.wf_execution.specs.Run.{last_of, last}
use Rattle.wf_execution.specs.RunTheorems.{last_more}
use Rattle.wf_codec.specs.Message as message
use Rattle.wf_codec.specs.declared.message.Message.{Message}
use Rattle.wf_def.specs.Definition.{Definition}
use Rattle.wf_def.specs.Equality.{definition_eq}
use Rattle.wf_delivery.specs.NodeInput.{Halts, Rejects, Steps, Fails, Takes}
use Rattle.wf_model.specs.Chosen.{IsIn}
use Rattle.wf_model.specs.DurableState.{DurableState, definition_at}
use Rattle.wf_model.specs.Fits.{IsForNext, RecordsFit}
use Rattle.wf_model.specs.Message as model
use Rattle.wf_model.specs.Message.{Chosen}
use Rattle.wf_model.specs.Table.{Input}
use Rattle.wf_model.specs.VolatileState.{VolatileState, at_start}
use Rattle.wf_node.specs.Input.{view}
use Rattle.wf_node.specs.Node.{Node, stored_of, volatile_of}
use Rattle.wf_node.specs.Step.{transition_of, stored_next}
use Rattle.wf_replacement.specs.Timeline.{ProcessEvent, Opens, Acts, Ends, Loses, Rejoins, process_of, returned_by, returned_through, ProcessState, Down, Up, Lost, state_after, node_in, IsPossible, states_with, states_from, ArePossible, unstarted_process}
use Rattle.wf_tape.specs.declared.tape.Tape.{Ghosts as Tape}
use Rattle.wf_rejoin_guard.specs.Learned.{ChosenArePublished}
use Rattle.wf_rejoin_guard.proofs.Lists.{in_either}
use Rattle.wf_rejoin_guard.proofs.Sayings.{says_its_own, had_in}

-- ---- a step

-- a running proposal of the node is for the next sequence
abbrev IsNodeForNext : {T : Type 0} → Node T → Type 0
IsNodeForNext node = IsForNext (stored_of node) (volatile_of node).proposing

parts_for_next : (stored next : DurableState Definition) (volatile later : VolatileState Definition) → next ≡ stored → later ≡ volatile → IsForNext stored volatile.proposing → IsForNext next later.proposing
parts_for_next stored next volatile later same equal is = subst (λ (v : VolatileState Definition). IsForNext next v.proposing) (sym equal) (subst (λ (x : DurableState Definition). IsForNext x volatile.proposing) (sym same) is)

module _ {T : Type 0} (tapes : Tape T) (before after : Node T) (input : Input Definition) (outputs : List Message) where
  -- the node's parts stay
  same_for_next : stored_of after ≡ stored_of before → volatile_of after ≡ volatile_of before → IsNodeForNext before → IsNodeForNext after
  same_for_next same equal is = parts_for_next (stored_of before) (stored_of after) (volatile_of before) (volatile_of after) same equal is

  takes_for_next : RecordsFit Definition → (lost : Bool) → Takes tapes lost input before after outputs → IsNodeForNext before → IsNodeForNext after
  takes_for_next fit false (Halts is same quiet) next = subst (λ (x : Node T). IsNodeForNext x) (sym same) next
  takes_for_next fit false (Rejects why runs refused same quiet) next = subst (λ (x : Node T). IsNodeForNext x) (sym same) next
  takes_for_next fit false (Steps runs none is grown) next =
      parts_for_next (stored_next before input) (stored_of after) (transition_of before input).volatile (volatile_of after) is.stored is.volatile
      (fit definition_eq before.n before.id (stored_of before) (volatile_of before) input next).for_next
  takes_for_next fit false (Fails runs none is same keeps part torn quiet) next = same_for_next (ap (λ (x : Node T). stored_of x) same) (ap (λ (x : Node T). volatile_of x) same) next
  takes_for_next fit true is next = same_for_next (ap (λ (x : Node T). stored_of x) is.same) (ap (λ (x : Node T). volatile_of x) is.same) next

  module _ (s : ℕ) (d : Definition) (next : IsNodeForNext before) where
    none_said : outputs ≡ [] → IsIn (Chosen s d) (map message.view outputs) → definition_at after.parts.history s ≡ Some d
    none_said quiet is_in = absurd (subst (λ xs. IsIn (Chosen s d) (map message.view xs)) quiet is_in)

    step_had : (sent : List (model.Message Definition)) → sent ≡ (transition_of before input).messages → stored_of after ≡ stored_next before input → IsIn (Chosen s d) sent → definition_at after.parts.history s ≡ Some d
    step_had sent are stored is_in =
        subst (λ (x : DurableState Definition). definition_at x.history s ≡ Some d) (sym stored)
        (had_in (stored_next before input).history (Chosen s d) (transition_of before input).messages
        (says_its_own (stored_of before) definition_eq before.n before.id (volatile_of before) input next) (subst (IsIn (Chosen s d)) are is_in))

    -- what it says is published, it has published by then
    takes_had : (lost : Bool) → Takes tapes lost input before after outputs → IsIn (Chosen s d) (map message.view outputs) → definition_at after.parts.history s ≡ Some d
    takes_had false (Halts is same quiet) is_in = none_said quiet is_in
    takes_had false (Rejects why runs refused same quiet) is_in = none_said quiet is_in
    takes_had false (Steps runs none is grown) is_in = step_had (map message.view outputs) is.messages is.stored is_in
    takes_had false (Fails runs none is same keeps part torn quiet) is_in = none_said quiet is_in
    takes_had true is is_in = none_said is.quiet is_in

-- ---- an event

-- so it is with the node of a process that runs
abbrev IsProcessForNext : {T : Type 0} → ProcessState T → Type 0
IsProcessForNext (Down bytes) = ⊤
IsProcessForNext (Up run) = IsNodeForNext (last run)
IsProcessForNext Lost = ⊤

-- the process runs then, and its node has published this
record HasPublished {T : Type 0} (state : ProcessState T) (s : ℕ) (d : Definition) : Type 0 where
  node : Node T
  at : node_in state ≡ Some node
  has : definition_at node.parts.history s ≡ Some d

started_for_next : {T : Type 0} (node : Node T) → volatile_of node ≡ at_start → IsNodeForNext node
unfolding at_start
started_for_next node idle = subst (λ (v : VolatileState Definition). IsForNext (stored_of node) v.proposing) (sym idle) tt

module _ {T : Type 0} (tapes : Tape T) (n : ℕ) (sent : List Message) where
  event_for_next : RecordsFit Definition → (state : ProcessState T) (event : ProcessEvent T) → IsPossible tapes n sent state event → IsProcessForNext state → IsProcessForNext (state_after state event)
  unfolding last_of
  event_for_next fit (Down bytes) (Opens i node) is next = started_for_next node is.idle
  event_for_next fit (Down bytes) (Acts i act) is next = absurd is
  event_for_next fit (Down bytes) (Ends i end left) is next = absurd is
  event_for_next fit (Down bytes) (Loses i) is next = tt
  event_for_next fit (Down bytes) (Rejoins i copy) is next = absurd is
  event_for_next fit (Up run) (Opens i node) is next = absurd is
  event_for_next fit (Up run) (Acts i act) is next =
      subst (λ (x : Node T). IsNodeForNext x) (sym (last_more run.first run.acts act)) (takes_for_next tapes (last run) act.after (view act.input) act.outputs fit is.0.lost is.0.takes next)
  event_for_next fit (Up run) (Ends i end left) is next = tt
  event_for_next fit (Up run) (Loses i) is next = tt
  event_for_next fit (Up run) (Rejoins i copy) is next = absurd is
  event_for_next fit Lost (Opens i node) is next = absurd is
  event_for_next fit Lost (Acts i act) is next = absurd is
  event_for_next fit Lost (Ends i end left) is next = absurd is
  event_for_next fit Lost (Loses i) is next = absurd is
  event_for_next fit Lost (Rejoins i copy) is next = tt

  -- only a step says something
  event_had : (state : ProcessState T) (event : ProcessEvent T) (s : ℕ) (d : Definition) → IsPossible tapes n sent state event → IsProcessForNext state → IsIn (Chosen s d) (map message.view (returned_by event)) →
      HasPublished (state_after state event) s d
  event_had state (Opens i node) s d is next is_in = absurd is_in
  event_had (Down bytes) (Acts i act) s d is next is_in = absurd is
  event_had (Up run) (Acts i act) s d is next is_in = record {
    node = act.after;
    at = ap Some (last_more run.first run.acts act);
    has = takes_had tapes (last run) act.after (view act.input) act.outputs s d next is.0.lost is.0.takes is_in;
  }
  event_had Lost (Acts i act) s d is next is_in = absurd is
  event_had state (Ends i end left) s d is next is_in = absurd is_in
  event_had state (Loses i) s d is next is_in = absurd is_in
  event_had state (Rejoins i copy) s d is next is_in = absurd is_in

-- ---- all of them

module _ {T : Type 0} (states : ℕ → ProcessState T) (event : ProcessEvent T) (j : ℕ) where
  state_own : j ≡ process_of event → states_with states event j ≡ state_after (states j) event
  unfolding states_with
  state_own same = rw (eq-eqb j (process_of event) same) refl

  state_other : j ≢ process_of event → states_with states event j ≡ states j
  unfolding states_with
  state_other differs = rw (ne_eqb j (process_of event) differs) refl

-- after some of these events, one of n processes that runs has published this
record HavePublished {T : Type 0} (n : ℕ) (states : ℕ → ProcessState T) (events : List (ProcessEvent T)) (until s : ℕ) (d : Definition) : Type 0 where
  moment : ℕ
  by_then : moment ≤ until
  process : ℕ
  is_member : process < n
  published : HasPublished (states_from states (take moment events) process) s d

module _ {T : Type 0} (fit : RecordsFit Definition) (tapes : Tape T) (n : ℕ) where
  module _ (sent : List Message) (states : ℕ → ProcessState T) (event : ProcessEvent T) (possible : IsPossible tapes n sent (states (process_of event)) event)
      (next : (i : ℕ) → IsProcessForNext (states i)) where
    all_for_next : (i : ℕ) → IsProcessForNext (states_with states event i)
    all_for_next i = elim (cases_eq i (process_of event)) [
      | inl same ↦
          subst (λ (x : ProcessState T). IsProcessForNext x) (sym (state_own states event i same))
          (subst (λ p. IsProcessForNext (state_after (states p) event)) (sym same) (event_for_next tapes n sent fit (states (process_of event)) event possible (next (process_of event))))
      | inr differs ↦ subst (λ (x : ProcessState T). IsProcessForNext x) (sym (state_other states event i differs)) (next i)
    ]

    -- the event itself says it
    now_published : (events : List (ProcessEvent T)) (k s : ℕ) (d : Definition) → process_of event < n → IsIn (Chosen s d) (map message.view (returned_by event)) →
        HavePublished n states (event ∷ events) (suc k) s d
    unfolding states_from
    now_published events k s d is_member is_in = record {
      moment = 1;
      by_then = omega arith;
      process = process_of event;
      is_member = is_member;
      published = subst (λ (x : ProcessState T). HasPublished x s d) (sym (state_own states event (process_of event) refl)) (event_had tapes n sent (states (process_of event)) event s d possible (next (process_of event)) is_in);
    }

  later_published : (states : ℕ → ProcessState T) (event : ProcessEvent T) (events : List (ProcessEvent T)) (k s : ℕ) (d : Definition) → HavePublished n (states_with states event) events k s d →
      HavePublished n states (event ∷ events) (suc k) s d
  unfolding states_from
  later_published states event events k s d later =
      let by_then : later.moment ≤ k = later.by_then in
      record { moment = suc later.moment; by_then = omega (arith, by_then); process = later.process; is_member = later.is_member; published = later.published }

  chosen_from : (sent : List Message) (states : ℕ → ProcessState T) (events : List (ProcessEvent T)) → ArePossible tapes n sent states events → ((i : ℕ) → IsProcessForNext (states i)) → (k s : ℕ) (d : Definition) →
      IsIn (Chosen s d) (map message.view (returned_through (take k events))) → HavePublished n states events k s d
  unfolding returned_through
  chosen_from sent states [] are next zero s d is_in = absurd is_in
  chosen_from sent states [] are next (suc k) s d is_in = absurd is_in
  chosen_from sent states (event ∷ events) are next zero s d is_in = absurd is_in
  chosen_from sent states (event ∷ events) are next (suc k) s d is_in =
      let parts = subst (IsIn (Chosen s d)) (map-append message.view (returned_by event) (returned_through (take k events))) is_in in
      elim (in_either (Chosen s d) (map message.view (returned_by event)) (map message.view (returned_through (take k events))) parts) [
        | inl now ↦ now_published sent states event are.1 next events k s d are.0 now
        | inr after ↦ later_published states event events k s d (chosen_from (sent ++ returned_by event) (states_with states event) events are.2 (all_for_next sent states event are.1 next) k s d after)
      ]

pub chosen_published : {T : Type 0} (tapes : Tape T) → RecordsFit Definition → ChosenArePublished tapes
chosen_published tapes fit = λ n events timeline k s d is_in.
    let so = chosen_from fit tapes n [] unstarted_process events timeline (λ i. tt) k s d is_in in
    record {
      moment = so.moment;
      by_then = so.by_then;
      process = so.process;
      node = so.published.node;
      held = record { is_member = so.is_member; at = so.published.at };
      has = so.published.has;
    }
