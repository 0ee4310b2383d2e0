-- What an act of a process's run is in the model: a deed of its node.
use Rattle.std.proofs.Common.{◌≡◌, ◌⊎◌, ℕ, Bool, true, false, List, [], ◌∷◌, ◌++◌, map, Option, Some, None, refl, sym, ap, subst, ◌∙◌, inl, inr}
use Rattle.std.proofs.lemmas.Bool.{both_ways}
use Rattle.wf_execution.specs.Execution.{IsOneOf}
use Rattle.wf_execution.specs.Run.{Input, Act, Run, last_of, last, FailedAt, AreDone, IsRun}
use Rattle.wf_codec.specs.Message as message
use Rattle.wf_codec.specs.declared.message.Message.{Message}
use Rattle.wf_def.specs.Definition.{Definition}
use Rattle.wf_def.specs.Equality.{definition_eq}
use Rattle.wf_delivery.specs.NodeInput.{Halts, Rejects, Fails, Takes}
use Rattle.wf_delivery.specs.NodeInput as giving
use Rattle.wf_model.specs.Chosen.{IsIn}
use Rattle.wf_model.specs.DurableState.{DurableState}
use Rattle.wf_model.specs.Message as model
use Rattle.wf_model.specs.Table as table
use Rattle.wf_model.specs.Table.{Transition, transition, store}
use Rattle.wf_model.specs.VolatileState.{VolatileState}
use Rattle.wf_model.specs.World as world
use Rattle.wf_model.specs.World.{Turn, Before, After, stored_after, kept_part, turn_running, turn_of}
use Rattle.wf_model.specs.declared.action.Action.TheVariants as action
use Rattle.wf_node.specs.Growth.{IsGrown, grown_itself, transition_grown, same_grown}
use Rattle.wf_node.specs.Input.{view}
use Rattle.wf_node.specs.Node.{Node, stored_of, volatile_of}
use Rattle.wf_node.specs.Step.{transition_of, step_rejection_at, stored_next, IsTransition, IsSameNode}
use Rattle.wf_safety.specs.Theorems.{IsBeginning}
use Rattle.wf_tape.specs.declared.tape.Tape.{Ghosts as Tape}
use Rattle.wf_trace.specs.Deed as deeds
use Rattle.wf_trace.specs.Deed.{Deed, Crashes, IsDone}
use Rattle.wf_trace.specs.Trace.{IsInputOf, DeliversOneOf}

-- ---- a node in the model

abbrev pub node_of : DurableState Definition → Option (VolatileState Definition) → world.Node Definition
node_of stored parts = record { stored = stored; volatile = parts }

-- a node that runs, and one that is stopped
abbrev pub running : {T : Type 0} → Node T → world.Node Definition
running node = node_of (stored_of node) (Some (volatile_of node))

abbrev pub down : DurableState Definition → world.Node Definition
down stored = node_of stored None

pub node_eq : (a c : DurableState Definition) (b d : Option (VolatileState Definition)) → a ≡ c → b ≡ d → node_of a b ≡ node_of c d
node_eq a c b d e h = ap (λ x. node_of x b) e ∙ ap (λ x. node_of c x) h

-- ---- what is delivered was returned

in_view : (m : Message) (sent : List Message) → IsIn m sent → IsIn (message.view m) (map message.view sent)
in_view m [] is_in = absurd is_in
in_view m (first ∷ sent) (inl same) = inl (ap message.view same)
in_view m (first ∷ sent) (inr is_in) = inr (in_view m sent is_in)

pub input_view : (sent : List Message) (input : Input) → IsOneOf sent input → IsInputOf (map message.view sent) (view input)
input_view sent (action.Propose d) is = tt
input_view sent action.Retry is = tt
input_view sent action.CatchUp is = tt
input_view sent (action.Deliver m) is = in_view m sent is

-- ---- a turn of a node

module _ {T : Type 0} (n i : ℕ) (node : Node T) (input : table.Input Definition) (own : node.id ≡ i) (among : node.n ≡ n) where
  abbrev the_transition : Transition Definition
  the_transition = transition definition_eq n i (stored_of node) (volatile_of node) input

  abbrev the_turn : Turn Definition
  the_turn = record { stored = stored_of node; transition = the_transition }

  transition_same : transition_of node input ≡ the_transition
  transition_same = ap (λ k. transition definition_eq k node.id (stored_of node) (volatile_of node) input) among ∙ ap (λ k. transition definition_eq n k (stored_of node) (volatile_of node) input) own

  turn_made : step_rejection_at node input ≡ None → turn_of definition_eq n i (Some (running node)) (Some input) ≡ Some the_turn
  unfolding turn_of turn_running
  turn_made none = rw none refl

  -- the step is made
  stepped : (after : Node T) (outputs : List Message) (y : world.Node Definition) → step_rejection_at node input ≡ None → IsTransition node (transition_of node input) outputs after → y ≡ running after →
      IsDone definition_eq n i (running node) (deeds.Takes input) (map message.view outputs) y
  unfolding stored_after
  stepped after outputs y none is now = inl (record {
    turn = the_turn;
    effect = turn_made none;
    messages = is.messages ∙ ap (λ (r : Transition Definition). r.messages) transition_same;
    node = now ∙ node_eq (stored_of after) (store (stored_of node) the_transition.entry) (Some (volatile_of after)) (Some the_transition.volatile)
        (is.stored ∙ ap (λ (r : Transition Definition). store (stored_of node) r.entry) transition_same) (ap Some (is.volatile ∙ ap (λ (r : Transition Definition). r.volatile) transition_same));
  })

  -- it is cut, and its record isn't kept, or it is
  cut_before : (outputs : List (model.Message Definition)) (y : world.Node Definition) → step_rejection_at node input ≡ None → outputs ≡ [] → y ≡ down (stored_of node) →
      IsDone definition_eq n i (running node) (Crashes input Before) outputs y
  unfolding kept_part
  cut_before outputs y none quiet now = record { turn = the_turn; effect = turn_made none; silent = quiet; node = now }

  pub cut_after : (outputs : List (model.Message Definition)) (y : world.Node Definition) → step_rejection_at node input ≡ None → outputs ≡ [] → y ≡ down (stored_next node input) →
      IsDone definition_eq n i (running node) (Crashes input After) outputs y
  unfolding kept_part stored_after
  cut_after outputs y none quiet now = record {
    turn = the_turn;
    effect = turn_made none;
    silent = quiet;
    node = now ∙ ap (λ (r : Transition Definition). down (store (stored_of node) r.entry)) transition_same;
  }

-- ---- a step

module _ {T : Type 0} (tapes : Tape T) (before : Node T) (input : table.Input Definition) (after : Node T) (outputs : List Message) where
  -- a halted node is unchanged, and returns nothing
  pub halted_same : (lost : Bool) → Takes tapes lost input before after outputs → before.halted ≡ true → (after ≡ before) × (outputs ≡ [])
  halted_same false (Halts is same quiet) halts = (same, quiet)
  halted_same false (Rejects why runs refused same quiet) halts = (same, quiet)
  halted_same false (giving.Steps runs none is grown) halts = absurd (both_ways before.halted runs halts)
  halted_same false (Fails runs none is same keeps part torn quiet) halts = absurd (both_ways before.halted runs halts)
  halted_same true is halts = absurd (both_ways before.halted is.runs halts)

  -- the node keeps its number
  pub takes_id : (lost : Bool) → Takes tapes lost input before after outputs → (after.id ≡ before.id) × (after.n ≡ before.n)
  takes_id false (Halts is same quiet) = (ap (λ (x : Node T). x.id) same, ap (λ (x : Node T). x.n) same)
  takes_id false (Rejects why runs refused same quiet) = (ap (λ (x : Node T). x.id) same, ap (λ (x : Node T). x.n) same)
  takes_id false (giving.Steps runs none is grown) = (is.id, is.n)
  takes_id false (Fails runs none is same keeps part torn quiet) = (ap (λ (x : Node T). x.id) same, ap (λ (x : Node T). x.n) same)
  takes_id true is = (ap (λ (x : Node T). x.id) is.same, ap (λ (x : Node T). x.n) is.same)

  -- its list of published maps grows, or stays
  takes_grown : (lost : Bool) → Takes tapes lost input before after outputs → IsGrown before.parts.history after.parts.history
  takes_grown false (Halts is same quiet) = subst (λ (x : Node T). IsGrown before.parts.history x.parts.history) (sym same) (grown_itself before.parts.history)
  takes_grown false (Rejects why runs refused same quiet) = subst (λ (x : Node T). IsGrown before.parts.history x.parts.history) (sym same) (grown_itself before.parts.history)
  takes_grown false (giving.Steps runs none is grown) = transition_grown before after (transition_of before input) outputs is
  takes_grown false (Fails runs none is same keeps part torn quiet) = same_grown before after same
  takes_grown true is = same_grown before after is.same

  pub takes_begins : (lost : Bool) → Takes tapes lost input before after outputs → IsBeginning before.parts.history after.parts.history
  takes_begins lost takes = let grown = takes_grown lost takes in (grown.more, grown.is)

  -- Where the tape failed within the step, this is stored by then: what was stored before it, or
  -- after it.
  abbrev pub IsKept : DurableState Definition → Type 0
  IsKept part = (part ≡ stored_of after) ⊎ (part ≡ stored_next after input)

  module _ (n i : ℕ) (own : before.id ≡ i) (among : before.n ≡ n) (sent : List Message) (received : IsInputOf (map message.view sent) input) (y : world.Node Definition) where
    -- the step is a deed that leaves this node
    pub record IsDeed : Type 0 where
      pub deed : Deed Definition
      pub is_received : DeliversOneOf (map message.view sent) deed
      pub done : IsDone definition_eq n i (running before) deed (map message.view outputs) y

    same_deed : y ≡ running before → outputs ≡ [] → IsDeed
    same_deed same quiet = record { deed = deeds.Takes input; is_received = received; done = inr (record { same_node = same; silent = ap (map message.view) quiet }) }

    -- the tape fails: the record isn't kept, or it is
    fails_deed : step_rejection_at before input ≡ None → IsSameNode before after → outputs ≡ [] → (part : DurableState Definition) → IsKept part → y ≡ down part → IsDeed
    fails_deed none same quiet part (inl kept) now = record {
      deed = Crashes input Before;
      is_received = received;
      done = cut_before n i before input own among (map message.view outputs) y none (ap (map message.view) quiet)
          (now ∙ ap down (kept ∙ ap (λ (x : Node T). stored_of x) same));
    }
    fails_deed none same quiet part (inr kept) now = record {
      deed = Crashes input After;
      is_received = received;
      done = cut_after n i before input own among (map message.view outputs) y none (ap (map message.view) quiet)
          (now ∙ ap down (kept ∙ ap (λ (x : Node T). stored_next x input) same));
    }

    -- the node runs afterwards
    pub running_deed : (lost : Bool) → Takes tapes lost input before after outputs → before.halted ≡ false → after.halted ≡ false → y ≡ running after → IsDeed
    running_deed false (Halts is same quiet) runs still now = same_deed (now ∙ ap (λ (x : Node T). running x) same) quiet
    running_deed false (Rejects why is refused same quiet) runs still now = same_deed (now ∙ ap (λ (x : Node T). running x) same) quiet
    running_deed false (giving.Steps is none it grown) runs still now = record { deed = deeds.Takes input; is_received = received; done = stepped n i before input own among after outputs y none it now }
    running_deed false (Fails is none halts same keeps part torn quiet) runs still now = absurd (both_ways after.halted still halts)
    running_deed true is runs still now = same_deed (now ∙ ap (λ (x : Node T). running x) is.same) is.quiet

    -- it doesn't
    pub halting_deed : (lost : Bool) → Takes tapes lost input before after outputs → before.halted ≡ false → after.halted ≡ true → (part : DurableState Definition) → IsKept part → y ≡ down part → IsDeed
    halting_deed false (Halts is same quiet) runs halts part kept now = absurd (both_ways before.halted runs is)
    halting_deed false (Rejects why is refused same quiet) runs halts part kept now = absurd (both_ways before.halted is (ap (λ (x : Node T). x.halted) (sym same) ∙ halts))
    halting_deed false (giving.Steps is none it grown) runs halts part kept now = absurd (both_ways after.halted it.running halts)
    halting_deed false (Fails is none now_halts same keeps content torn quiet) runs halts part kept now = fails_deed none same quiet part kept now
    halting_deed true is runs halts part kept now = absurd (both_ways after.halted is.still halts)

-- ---- a run

module _ {T : Type 0} (tapes : Tape T) where
  halted_last : (before : Node T) (acts : List (Act T)) → before.halted ≡ true → AreDone tapes before acts → last_of before acts ≡ before
  unfolding last_of
  halted_last before [] halts done = refl
  halted_last before (act ∷ acts) halts done =
      let same : act.after ≡ before = (halted_same tapes before (view act.input) act.after act.outputs done.0.lost done.0.takes halts).0 in
      halted_last act.after acts (ap (λ (x : Node T). x.halted) same ∙ halts) done.1 ∙ same

  last_id : (before : Node T) (acts : List (Act T)) → AreDone tapes before acts → ((last_of before acts).id ≡ before.id) × ((last_of before acts).n ≡ before.n)
  unfolding last_of
  last_id before [] done = (refl, refl)
  last_id before (act ∷ acts) done =
      let here = takes_id tapes before (view act.input) act.after act.outputs done.0.lost done.0.takes in
      let later = last_id act.after acts done.1 in
      (later.0 ∙ here.0, later.1 ∙ here.1)

  failed_last : (before : Node T) (acts : List (Act T)) (input : Input) → AreDone tapes before acts → FailedAt before acts input → (last_of before acts).halted ≡ true
  unfolding last_of
  failed_last before [] input done failed = absurd failed
  failed_last before (act ∷ acts) input done (inl here) = ap (λ (x : Node T). x.halted) (halted_last act.after acts here.1 done.1) ∙ here.1
  failed_last before (act ∷ acts) input done (inr later) = failed_last act.after acts input done.1 later

  module _ (n i : ℕ) (bytes : List ℕ) (run : Run T) (is : IsRun tapes n i bytes run) where
    pub run_id : (last run).id ≡ i
    run_id = (last_id run.first run.acts is.done).0 ∙ is.opened.id

    pub run_among : (last run).n ≡ n
    run_among = (last_id run.first run.acts is.done).1 ∙ is.opened.among

    pub run_failed : (input : Input) → FailedAt run.first run.acts input → (last run).halted ≡ true
    run_failed input failed = failed_last run.first run.acts input is.done failed

-- within the last act, or before it
pub failed_where : {T : Type 0} (before : Node T) (acts : List (Act T)) (act : Act T) (input : Input) → FailedAt before (acts ++ act ∷ []) input →
    FailedAt before acts input ⊎ (((last_of before acts).halted ≡ false) × (act.after.halted ≡ true) × (act.input ≡ input))
unfolding last_of
failed_where before [] act input (inl here) = inr here
failed_where before [] act input (inr none) = absurd none
failed_where before (first ∷ acts) act input (inl here) = inl (inl here)
failed_where before (first ∷ acts) act input (inr later) = elim (failed_where first.after acts act input later) [
  | inl there ↦ inl (inr there)
  | inr here ↦ inr here
]
