-- The steps of a node are entries of the model's life.
use Rattle.std.proofs.Common.{◌≡◌, ◌⊎◌, ℕ, Bool, true, false, List, [], ◌∷◌, ◌++◌, map, Option, Some, None, refl, sym, ap, subst, ◌∙◌, inl, inr, append-nil, append_assoc}
use Rattle.std.specs.Prelude.{⊤}
use Rattle.std.proofs.lemmas.Bool.{both_ways}
use Rattle.std.proofs.lemmas.List.{map-append}
use Rattle.wf_codec.specs.Message as message
use Rattle.wf_codec.specs.declared.message.Message.{Message}
use Rattle.wf_def.specs.Definition.{Definition}
use Rattle.wf_def.specs.Equality.{definition_eq}
use Rattle.wf_model.specs.Message as model
use Rattle.wf_model.specs.DurableState.{DurableState}
use Rattle.wf_model.specs.VolatileState as volatile
use Rattle.wf_model.specs.Table as table
use Rattle.wf_model.specs.Table.{Transition, transition, store}
use Rattle.wf_model.specs.World as world
use Rattle.wf_model.specs.World.{Turn, Before, After, stored_after, kept_part, turn_running, turn_of}
use Rattle.wf_node.specs.Growth.{IsGrown, grown_itself, transition_grown, same_grown}
use Rattle.wf_node.specs.Input.{view}
use Rattle.wf_node.specs.Node.{Node, stored_of, volatile_of}
use Rattle.wf_node.specs.Step.{transition_of, step_rejection_at, stored_next, IsTransition, IsSameNode}
use Rattle.wf_delivery.specs.NodeInput.{Halts, Rejects, Fails, Takes}
use Rattle.wf_delivery.specs.NodeInput as giving
use Rattle.wf_tape.specs.declared.tape.Tape.{Ghosts as Tape}
use Rattle.wf_trace.specs.Deed.{Deed, Crashes, Stops, Restarts, IsDone}
use Rattle.wf_trace.specs.Deed as deeds
use Rattle.wf_trace.specs.Trace.{Entry, IsLifeByEntries}
use Rattle.wf_trace.specs.Order as order
use Rattle.wf_trace.specs.Order.{seen_of, seen, AreOf}
use Rattle.wf_execution.specs.Run.{Input, Act, last_of, FailedAt, IsAct, AreDone}
use Rattle.wf_execution.specs.Execution.{Item, items_by}

-- ---- what the node is in the model

abbrev pub node_of : DurableState Definition → Option (volatile.VolatileState Definition) → world.Node Definition
node_of stored parts = record { stored = stored; volatile = parts }

-- a node that runs, and one that is stopped
abbrev pub running : {T : Type 0} → Node T → world.Node Definition
running node = node_of (stored_of node) (Some (volatile_of node))

abbrev pub down : DurableState Definition → world.Node Definition
down stored = node_of stored None

-- A node whose tape failed is stopped, and its tape stands for this.
abbrev pub shown_by : {T : Type 0} → Bool → DurableState Definition → Node T → world.Node Definition
shown_by false part node = running node
shown_by true part node = down part

abbrev pub shown : {T : Type 0} → DurableState Definition → Node T → world.Node Definition
shown part node = shown_by node.halted part node

pub shown_running : {T : Type 0} (part : DurableState Definition) (node : Node T) → node.halted ≡ false → shown part node ≡ running node
shown_running part node runs = ap (λ h. shown_by h part node) runs

pub shown_halted : {T : Type 0} (part : DurableState Definition) (node : Node T) → node.halted ≡ true → shown part node ≡ down part
shown_halted part node halts = ap (λ h. shown_by h part node) halts

pub node_eq : (a c : DurableState Definition) (b d : Option (volatile.VolatileState Definition)) → a ≡ c → b ≡ d → node_of a b ≡ node_of c d
node_eq a c b d e h = ap (λ x. node_of x b) e ∙ ap (λ x. node_of c x) h

-- ---- entries that lead from one node to another

abbrev pub model_item : Item → order.Item Definition
model_item item = record { process = item.process; input = view item.takes; outputs = map message.view item.outputs }

-- Some entries of process i of n lead from the one to the other, and are seen as these items.
pub record Reachable (n i : ℕ) (before : world.Node Definition) (items : List Item) (after : world.Node Definition) : Type 0 where
  pub entries : List (Entry Definition)
  pub life : IsLifeByEntries definition_eq n i before entries after
  pub own : AreOf i entries
  pub as_items : seen entries ≡ map model_item items

module _ (n i : ℕ) where
  pub reachable_nowhere : (x : world.Node Definition) → Reachable n i x [] x
  unfolding seen
  reachable_nowhere x = record { entries = []; life = refl; own = tt; as_items = refl }

  -- one entry
  pub reachable_once : (x y : world.Node Definition) (deed : Deed Definition) (outputs : List (model.Message Definition)) (items : List Item) →
      IsDone definition_eq n i x deed outputs y → seen_of i outputs deed ≡ map model_item items → Reachable n i x items y
  unfolding seen
  reachable_once x y deed outputs items is seen_as = record {
    entries = record { process = i; deed = deed; outputs = outputs } ∷ [];
    life = (y, is, refl);
    own = (refl, tt);
    as_items = append-nil (seen_of i outputs deed) ∙ seen_as;
  }

  life_both : (x y z : world.Node Definition) (entries more : List (Entry Definition)) → IsLifeByEntries definition_eq n i x entries y → IsLifeByEntries definition_eq n i y more z →
      IsLifeByEntries definition_eq n i x (entries ++ more) z
  life_both x y z [] more life later = subst (λ (u : world.Node Definition). IsLifeByEntries definition_eq n i u more z) life later
  life_both x y z (entry ∷ entries) more life later = (life.0, life.1, life_both life.0 y z entries more life.2 later)

  own_both : (entries more : List (Entry Definition)) → AreOf i entries → AreOf i more → AreOf i (entries ++ more)
  own_both [] more own later = later
  own_both (entry ∷ entries) more own later = (own.0, own_both entries more own.1 later)

  seen_both : (entries more : List (Entry Definition)) → seen (entries ++ more) ≡ seen entries ++ seen more
  unfolding seen
  seen_both [] more = refl
  seen_both (entry ∷ entries) more =
      ap (λ xs. seen_of entry.process entry.outputs entry.deed ++ xs) (seen_both entries more)
      ∙ sym (append_assoc (seen_of entry.process entry.outputs entry.deed) (seen entries) (seen more))

  pub reachable_both : (x y z : world.Node Definition) (items more : List Item) → Reachable n i x items y → Reachable n i y more z → Reachable n i x (items ++ more) z
  reachable_both x y z items more first second = record {
    entries = first.entries ++ second.entries;
    life = life_both x y z first.entries second.entries first.life second.life;
    own = own_both first.entries second.entries first.own second.own;
    as_items = seen_both first.entries second.entries ∙ ap (λ xs. xs ++ seen second.entries) first.as_items
        ∙ ap (λ xs. map model_item items ++ xs) second.as_items ∙ sym (map-append model_item items more);
  }

  -- a stop, and a restart of a stopped node
  pub reachable_stopped : (x : world.Node Definition) → Reachable n i x [] (down x.stored)
  reachable_stopped x = reachable_once x (down x.stored) Stops [] [] (record { silent = refl; node = refl }) refl

  pub reachable_restarted : {T : Type 0} (stored : DurableState Definition) (node : Node T) → stored ≡ stored_of node → volatile_of node ≡ volatile.at_start → Reachable n i (down stored) [] (running node)
  reachable_restarted stored node same idle =
      reachable_once (down stored) (running node) Restarts [] [] (record { stopped = refl; silent = refl; node = node_eq (stored_of node) stored _ _ (sym same) (ap Some idle) }) refl

  -- an input that changes nothing, at whatever node
  pub reachable_unchanged : (x : world.Node Definition) (input : Input) → Reachable n i x (record { process = i; takes = input; outputs = [] } ∷ []) x
  reachable_unchanged x input =
      reachable_once x x (deeds.Takes (view input)) [] (record { process = i; takes = input; outputs = [] } ∷ []) (inr (record { same_node = refl; silent = refl })) refl

-- ---- a turn of a node

module _ {T : Type 0} (n i : ℕ) (node : Node T) (input : table.Input Definition) (own : node.id ≡ i) (among : node.n ≡ n) where
  abbrev the_transition : Transition Definition
  the_transition = transition definition_eq n i (stored_of node) (volatile_of node) input

  abbrev the_turn : Turn Definition
  the_turn = record { stored = stored_of node; transition = the_transition }

  transition_same : transition_of node input ≡ the_transition
  transition_same = ap (λ k. transition definition_eq k node.id (stored_of node) (volatile_of node) input) among ∙ ap (λ k. transition definition_eq n k (stored_of node) (volatile_of node) input) own

  turn_made : step_rejection_at node input ≡ None → turn_of definition_eq n i (Some (running node)) (Some input) ≡ Some the_turn
  unfolding turn_of turn_running
  turn_made none = rw none refl

  -- the step is made
  stepped : (after : Node T) (outputs : List Message) (x y : world.Node Definition) → step_rejection_at node input ≡ None → IsTransition node (transition_of node input) outputs after → x ≡ running node → y ≡ running after →
      IsDone definition_eq n i x (deeds.Takes input) (map message.view outputs) y
  unfolding stored_after
  stepped after outputs x y none is before now = inl (record {
    turn = the_turn;
    effect = ap (λ z. turn_of definition_eq n i (Some z) (Some input)) before ∙ turn_made none;
    messages = is.messages ∙ ap (λ (r : Transition Definition). r.messages) transition_same;
    node = now ∙ node_eq (stored_of after) (store (stored_of node) the_transition.entry) (Some (volatile_of after)) (Some the_transition.volatile)
        (is.stored ∙ ap (λ (r : Transition Definition). store (stored_of node) r.entry) transition_same) (ap Some (is.volatile ∙ ap (λ (r : Transition Definition). r.volatile) transition_same));
  })

  -- it is cut, and its record isn't kept, or it is
  cut_before : (outputs : List (model.Message Definition)) (x y : world.Node Definition) → step_rejection_at node input ≡ None → outputs ≡ [] → x ≡ running node → y ≡ down (stored_of node) →
      IsDone definition_eq n i x (Crashes input Before) outputs y
  unfolding kept_part
  cut_before outputs x y none quiet before now =
      record { turn = the_turn; effect = ap (λ z. turn_of definition_eq n i (Some z) (Some input)) before ∙ turn_made none; silent = quiet; node = now }

  cut_after : (outputs : List (model.Message Definition)) (x y : world.Node Definition) → step_rejection_at node input ≡ None → outputs ≡ [] → x ≡ running node → y ≡ down (stored_next node input) →
      IsDone definition_eq n i x (Crashes input After) outputs y
  unfolding kept_part stored_after
  cut_after outputs x y none quiet before now = record {
    turn = the_turn;
    effect = ap (λ z. turn_of definition_eq n i (Some z) (Some input)) before ∙ turn_made none;
    silent = quiet;
    node = now ∙ ap (λ (r : Transition Definition). down (store (stored_of node) r.entry)) transition_same;
  }

  -- a run that is cut within the step, whose record is kept
  pub reachable_cut : (takes : Input) → view takes ≡ input → step_rejection_at node input ≡ None → Reachable n i (running node) (record { process = i; takes = takes; outputs = [] } ∷ []) (down (stored_next node input))
  reachable_cut takes same none =
      reachable_once n i (running node) (down (stored_next node input)) (Crashes input After) [] (record { process = i; takes = takes; outputs = [] } ∷ [])
      (cut_after [] (running node) (down (stored_next node input)) none refl refl refl)
      (ap (λ z. record { process = i; input = z; outputs = [] } ∷ []) (sym same))

-- ---- a step

module _ {T : Type 0} (tapes : Tape T) (before : Node T) (input : table.Input Definition) (after : Node T) (outputs : List Message) where
  -- a halted node is unchanged
  halted_same : (lost : Bool) → Takes tapes lost input before after outputs → before.halted ≡ true → after ≡ before
  halted_same false (Halts is same quiet) halts = same
  halted_same false (Rejects why runs refused same quiet) halts = same
  halted_same false (giving.Steps runs none is grown) halts = absurd (both_ways before.halted runs halts)
  halted_same false (Fails runs none is same keeps part torn quiet) halts = absurd (both_ways before.halted runs halts)
  halted_same true is halts = absurd (both_ways before.halted is.runs halts)

  -- a node whose tape fails has stored what it had
  failed_same : (lost : Bool) → Takes tapes lost input before after outputs → before.halted ≡ false → after.halted ≡ true → IsSameNode before after
  failed_same false (Halts is same quiet) runs halts = absurd (both_ways before.halted runs is)
  failed_same false (Rejects why is refused same quiet) runs halts = absurd (both_ways before.halted is (ap (λ (x : Node T). x.halted) (sym same) ∙ halts))
  failed_same false (giving.Steps is none transition grown) runs halts = absurd (both_ways after.halted transition.running halts)
  failed_same false (Fails is none now same keeps part torn quiet) runs halts = same
  failed_same true is runs halts = absurd (both_ways after.halted is.still halts)

  pub takes_grown : (lost : Bool) → Takes tapes lost input before after outputs → IsGrown before.parts.history after.parts.history
  takes_grown false (Halts is same quiet) = subst (λ (x : Node T). IsGrown before.parts.history x.parts.history) (sym same) (grown_itself before.parts.history)
  takes_grown false (Rejects why runs refused same quiet) = subst (λ (x : Node T). IsGrown before.parts.history x.parts.history) (sym same) (grown_itself before.parts.history)
  takes_grown false (giving.Steps runs none is grown) = transition_grown before after (transition_of before input) outputs is
  takes_grown false (Fails runs none is same keeps part torn quiet) = same_grown before after same
  takes_grown true is = same_grown before after is.same

  -- the node keeps its number
  takes_id : (lost : Bool) → Takes tapes lost input before after outputs → (after.id ≡ before.id) × (after.n ≡ before.n)
  takes_id false (Halts is same quiet) = (ap (λ (x : Node T). x.id) same, ap (λ (x : Node T). x.n) same)
  takes_id false (Rejects why runs refused same quiet) = (ap (λ (x : Node T). x.id) same, ap (λ (x : Node T). x.n) same)
  takes_id false (giving.Steps runs none is grown) = (is.id, is.n)
  takes_id false (Fails runs none is same keeps part torn quiet) = (ap (λ (x : Node T). x.id) same, ap (λ (x : Node T). x.n) same)
  takes_id true is = (ap (λ (x : Node T). x.id) is.same, ap (λ (x : Node T). x.n) is.same)

  -- what a tape that fails within the step stands for
  abbrev Kept : DurableState Definition → Type 0
  Kept part = before.halted ≡ false → after.halted ≡ true → (part ≡ stored_of before) ⊎ (part ≡ stored_next before input)

  module _ (n i : ℕ) (own : before.id ≡ i) (among : before.n ≡ n) (part : DurableState Definition) (kept : Kept part) where
    -- the step is a deed of this kind
    record IsDeed : Type 0 where
      deed : Deed Definition
      as_item : seen_of i (map message.view outputs) deed ≡ record { process = i; input = input; outputs = map message.view outputs } ∷ []
      done : IsDone definition_eq n i (shown part before) deed (map message.view outputs) (shown part after)

    same_deed : shown part after ≡ shown part before → outputs ≡ [] → IsDeed
    same_deed same quiet = record { deed = deeds.Takes input; as_item = refl; done = inr (record { same_node = same; silent = ap (map message.view) quiet }) }

    fails_deed : before.halted ≡ false → step_rejection_at before input ≡ None → after.halted ≡ true → outputs ≡ [] → (part ≡ stored_of before) ⊎ (part ≡ stored_next before input) → IsDeed
    fails_deed runs none halts quiet (inl same) = record {
      deed = Crashes input Before;
      as_item = refl;
      done = cut_before n i before input own among (map message.view outputs) (shown part before) (shown part after) none (ap (map message.view) quiet) (shown_running part before runs)
          (shown_halted part after halts ∙ ap down same);
    }
    fails_deed runs none halts quiet (inr next) = record {
      deed = Crashes input After;
      as_item = refl;
      done = cut_after n i before input own among (map message.view outputs) (shown part before) (shown part after) none (ap (map message.view) quiet) (shown_running part before runs)
          (shown_halted part after halts ∙ ap down next);
    }

    takes_deed : (lost : Bool) → Takes tapes lost input before after outputs → IsDeed
    takes_deed false (Halts is same quiet) = same_deed (ap (shown part) same) quiet
    takes_deed false (Rejects why runs refused same quiet) = same_deed (ap (shown part) same) quiet
    takes_deed false (giving.Steps runs none is grown) = record {
      deed = deeds.Takes input;
      as_item = refl;
      done = stepped n i before input own among after outputs (shown part before) (shown part after) none is (shown_running part before runs) (shown_running part after is.running);
    }
    takes_deed false (Fails runs none halts same keeps content torn quiet) = fails_deed runs none halts quiet (kept runs halts)
    takes_deed true is = same_deed (shown_running part after is.still ∙ ap (λ (x : Node T). running x) is.same ∙ sym (shown_running part before is.runs)) is.quiet

-- ---- step by step

module _ {T : Type 0} (tapes : Tape T) where
  pub halted_last : (before : Node T) (acts : List (Act T)) → before.halted ≡ true → AreDone tapes before acts → last_of before acts ≡ before
  unfolding last_of
  halted_last before [] halts done = refl
  halted_last before (act ∷ acts) halts done =
      let same : act.after ≡ before = halted_same tapes before (view act.input) act.after act.outputs done.0.lost done.0.takes halts in
      halted_last act.after acts (ap (λ (x : Node T). x.halted) same ∙ halts) done.1 ∙ same

  pub last_id : (before : Node T) (acts : List (Act T)) → AreDone tapes before acts → ((last_of before acts).id ≡ before.id) × ((last_of before acts).n ≡ before.n)
  unfolding last_of
  last_id before [] done = (refl, refl)
  last_id before (act ∷ acts) done =
      let here = takes_id tapes before (view act.input) act.after act.outputs done.0.lost done.0.takes in
      let later = last_id act.after acts done.1 in
      (later.0 ∙ here.0, later.1 ∙ here.1)

  -- what the tapes that fail within these steps stand for
  abbrev pub AreKept : DurableState Definition → Node T → List (Act T) → Type 0
  AreKept part before [] = ⊤
  AreKept part before (act ∷ acts) = Kept tapes before (view act.input) act.after act.outputs part × AreKept part act.after acts

  halted_kept : (part : DurableState Definition) (before : Node T) (acts : List (Act T)) → before.halted ≡ true → AreDone tapes before acts → AreKept part before acts
  halted_kept part before [] halts done = tt
  halted_kept part before (act ∷ acts) halts done =
      let same : act.after ≡ before = halted_same tapes before (view act.input) act.after act.outputs done.0.lost done.0.takes halts in
      (λ runs now. absurd (both_ways before.halted runs halts), halted_kept part act.after acts (ap (λ (x : Node T). x.halted) same ∙ halts) done.1)

  -- what the last node has stored
  last_stored : (before : Node T) (act : Act T) (acts : List (Act T)) → IsAct tapes before act → AreDone tapes act.after acts → before.halted ≡ false → act.after.halted ≡ true →
      IsSameNode before (last_of act.after acts)
  last_stored before act acts is done runs halts =
      let same = failed_same tapes before (view act.input) act.after act.outputs is.lost is.takes runs halts in
      subst (IsSameNode before) (sym (halted_last act.after acts halts done)) same

  pub kept_before : (part : DurableState Definition) (before : Node T) (acts : List (Act T)) → AreDone tapes before acts → part ≡ stored_of (last_of before acts) → AreKept part before acts
  unfolding last_of
  kept_before part before [] done same = tt
  kept_before part before (act ∷ acts) done same =
      (λ runs halts. inl (same ∙ ap (λ (x : Node T). stored_of x) (last_stored before act acts done.0 done.1 runs halts)), kept_before part act.after acts done.1 same)

  -- no tape fails after that of a halted node
  none_failed : (before : Node T) (acts : List (Act T)) (input : Input) → before.halted ≡ true → AreDone tapes before acts → FailedAt before acts input → ⊥
  none_failed before [] input halts done failed = failed
  none_failed before (act ∷ acts) input halts done (inl here) = both_ways before.halted here.0 halts
  none_failed before (act ∷ acts) input halts done (inr later) =
      let same : act.after ≡ before = halted_same tapes before (view act.input) act.after act.outputs done.0.lost done.0.takes halts in
      none_failed act.after acts input (ap (λ (x : Node T). x.halted) same ∙ halts) done.1 later

  pub kept_after : (part : DurableState Definition) (before : Node T) (acts : List (Act T)) (input : Input) → AreDone tapes before acts → FailedAt before acts input →
      part ≡ stored_next (last_of before acts) (view input) → AreKept part before acts
  unfolding last_of
  kept_after part before [] input done failed next = tt
  kept_after part before (act ∷ acts) input done (inl here) next = (
    λ runs halts. inr (next ∙ ap (λ (x : Node T). stored_next x (view input)) (last_stored before act acts done.0 done.1 runs halts) ∙ ap (λ z. stored_next before (view z)) (sym here.2)),
    halted_kept part act.after acts here.1 done.1,
  )
  kept_after part before (act ∷ acts) input done (inr later) next = (
    λ runs halts. absurd (none_failed act.after acts input halts done.1 later),
    kept_after part act.after acts input done.1 later next,
  )

  pub failed_last : (before : Node T) (acts : List (Act T)) (input : Input) → AreDone tapes before acts → FailedAt before acts input → (last_of before acts).halted ≡ true
  unfolding last_of
  failed_last before [] input done failed = absurd failed
  failed_last before (act ∷ acts) input done (inl here) = ap (λ (x : Node T). x.halted) (halted_last act.after acts here.1 done.1) ∙ here.1
  failed_last before (act ∷ acts) input done (inr later) = failed_last act.after acts input done.1 later

  -- The steps lead the model's node on.
  pub acts_reachable : (n i : ℕ) (part : DurableState Definition) (before : Node T) (acts : List (Act T)) → before.id ≡ i → before.n ≡ n → AreDone tapes before acts → AreKept part before acts →
      Reachable n i (shown part before) (items_by i acts) (shown part (last_of before acts))
  unfolding last_of items_by
  acts_reachable n i part before [] own among done kept = reachable_nowhere n i (shown part before)
  acts_reachable n i part before (act ∷ acts) own among done kept =
      let ids = takes_id tapes before (view act.input) act.after act.outputs done.0.lost done.0.takes in
      let is = takes_deed tapes before (view act.input) act.after act.outputs n i own among part kept.0 done.0.lost done.0.takes in
      reachable_both n i (shown part before) (shown part act.after) (shown part (last_of act.after acts)) (record { process = i; takes = act.input; outputs = act.outputs } ∷ []) (items_by i acts)
      (reachable_once n i (shown part before) (shown part act.after) is.deed (map message.view act.outputs) (record { process = i; takes = act.input; outputs = act.outputs } ∷ []) is.done is.as_item)
      (acts_reachable n i part act.after acts (ids.0 ∙ own) (ids.1 ∙ among) done.1 kept.1)
