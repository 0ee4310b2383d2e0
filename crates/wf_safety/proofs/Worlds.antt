-- The facts hold in the world that a farm starts with, each event keeps them, and so does each run.
use Rattle.std.proofs.Common.{◌≡◌, ℕ, zero, suc, ◌<◌, Bool, true, false, List, [], ◌∷◌, ◌++◌, length, replicate, slice_get, slice_set, is_some, Option, Some, None, refl, sym, ap, subst, ◌∙◌, inl, inr, length-set}
use Rattle.std.specs.Prelude.{⊤}
use Rattle.std.proofs.Math.ListN.{length-replicate}
use Rattle.std.proofs.lemmas.Bool.{cases_eq}
use Rattle.std.proofs.lemmas.Option.{none-some, same_Some, slice_get_within}
use Rattle.wf_model.specs.Message.{Message}
use Rattle.wf_model.specs.DurableState.{DurableState, nothing_stored, definition_at}
use Rattle.wf_model.specs.VolatileState.{VolatileState, at_start}
use Rattle.wf_model.specs.Table as table
use Rattle.wf_model.specs.Table.{Action, Input, step_rejection, transition, store}
use Rattle.wf_model.specs.World.{Node, World, Event, Act, Stop, Restart, Torn, Kept, Before, After, Turn, delivered, input_of, stored_after, kept_part, with_node, after_turn, after_torn, stop_running, after_stop, restart_stopped, after_restart, turn_running, turn_of, turn, happens, steps, start, after}
use Rattle.wf_safety.proofs.Members.{member-found}
use Rattle.wf_safety.proofs.Facts.{MessageFacts, DurableFacts, VolatileFacts, NodeFacts, TransitionFacts}
use Rattle.wf_safety.proofs.TransitionMessages.{emit_messages, emit_own, emit_other, volatile_other}
use Rattle.wf_safety.proofs.Proposer.{WasSent, transition_facts}

-- ---- nodes by number

pub get-set_same : {A : Type 0} (xs : List A) (i : ℕ) (x y : A) → slice_get xs i ≡ Some y → slice_get (slice_set xs i x) i ≡ Some x
get-set_same [] i x y e = absurd (none-some y e)
get-set_same (z ∷ xs) zero x y e = refl
get-set_same (z ∷ xs) (suc i) x y e = get-set_same xs i x y e

pub get-set_other : {A : Type 0} (xs : List A) (i j : ℕ) (x : A) → (j ≡ i → ⊥) → slice_get (slice_set xs i x) j ≡ slice_get xs j
get-set_other [] i j x differs = refl
get-set_other (z ∷ xs) zero zero x differs = absurd (differs refl)
get-set_other (z ∷ xs) zero (suc j) x differs = refl
get-set_other (z ∷ xs) (suc i) zero x differs = refl
get-set_other (z ∷ xs) (suc i) (suc j) x differs = get-set_other xs i j x (λ e. differs (ap suc e))

get-replicate : {A : Type 0} (n : ℕ) (x : A) (i : ℕ) (y : A) → slice_get (replicate n x) i ≡ Some y → x ≡ y
get-replicate zero x i y e = absurd (none-some y e)
get-replicate (suc n) x zero y e = same_Some x y e
get-replicate (suc n) x (suc i) y e = get-replicate n x i y e

-- ---- the facts of a world

-- a running node's volatile state
abbrev pub RunningFacts : {V : Type 0} → ℕ → ℕ → DurableState V → List (Message V) → Option (VolatileState V) → Type 0
RunningFacts n i stored sent None = ⊤
RunningFacts n i stored sent (Some volatile) = VolatileFacts n i stored sent volatile

-- no proposal, no leadership
at_start_facts : {V : Type 0} (n i : ℕ) (stored : DurableState V) (sent : List (Message V)) → VolatileFacts n i stored sent at_start
unfolding at_start
at_start_facts n i stored sent = record { proposing = tt; leading = tt }

pub record MemberFacts {V : Type 0} (n i : ℕ) (sent : List (Message V)) (node : Node V) : Type 0 where
  pub stored : DurableFacts n i node.stored sent
  pub running : RunningFacts n i node.stored sent node.volatile

pub record WorldFacts {V : Type 0} (n : ℕ) (w : World V) : Type 0 where
  pub size : length w.nodes ≡ n
  pub messages : MessageFacts n w.sent
  pub nodes : (i : ℕ) (node : Node V) → slice_get w.nodes i ≡ Some node → MemberFacts n i w.sent node

-- a node that is found is one of the n
pub is_node : {V : Type 0} (n : ℕ) (w : World V) → WorldFacts n w → (i : ℕ) (node : Node V) → slice_get w.nodes i ≡ Some node → i < n
is_node n w facts i node e = subst (λ k. i < k) facts.size (slice_get_within w.nodes i node e)

-- ---- the first world

nothing_at : {V : Type 0} (s : ℕ) (d : V) → definition_at {V = V} [] s ≡ Some d → ⊥
unfolding definition_at
nothing_at zero d e = none-some d e
nothing_at (suc k) d e = none-some d e

-- Nothing is stored, and nothing was sent.
nothing_facts : {V : Type 0} (n i : ℕ) → DurableFacts {V = V} n i nothing_stored []
unfolding nothing_stored
nothing_facts n i = record {
  tried = λ s b d is_in of_i is_open. absurd is_in;
  open_votes = λ s closed. refl;
  promised = λ s b votes is_in t in_window is_open. absurd is_in;
  accepted = λ s b is_in is_open. absurd is_in;
  voted = λ s b is_in is_open. absurd is_in;
  vote_asked = λ s vote e. absurd (none-some vote e);
  vote_within = λ s vote e. absurd (none-some vote e);
  promise_stands = λ b e. absurd (none-some b e);
  chosen = λ s d e. absurd (nothing_at s d e);
}

-- No message was sent, and each node is a new one.
pub start_facts : {V : Type 0} (n : ℕ) → WorldFacts {V = V} n (start n)
unfolding start
start_facts {V} n = record {
  size = length-replicate n (record { stored = nothing_stored; volatile = Some at_start });
  messages = record {
    requested = λ i s b votes h. absurd h;
    one_accept = λ s b c d h k. absurd h;
    backed = λ s b d h. absurd h;
    reports = λ i base s b c vote h k lower. absurd h.stated;
    reported_asked = λ i base s b vote h. absurd h.stated;
    reported_below = λ i base s b vote h. absurd h.stated;
    whole = λ i s b votes h. absurd h;
    chosen = λ s d h. absurd h;
    nodes = λ message b h k. absurd h;
    senders = λ i s b votes h. absurd h;
    voters = λ i s b h. absurd h;
    within = λ i base s b vote h. absurd h.stated;
    prepared_next = λ s b h. absurd h;
    asked_next = λ s b d h. absurd h;
    answered = λ i s b h. absurd h;
  };
  nodes = λ i node e.
      let new : Node V = record { stored = nothing_stored; volatile = Some at_start } in
      subst (MemberFacts n i []) (get-replicate n new i node e) (record { stored = nothing_facts n i; running = at_start_facts n i nothing_stored [] });
}

-- ---- a node changes, and no message is sent

-- Node i is the new one, and every other node is unchanged.
running_other : {V : Type 0} (n : ℕ) (w : World V) (i : ℕ) (stored : DurableState V) (volatile : Option (VolatileState V)) (old : Node V) → WorldFacts n w → slice_get w.nodes i ≡ Some old →
    DurableFacts n i stored w.sent → RunningFacts n i stored w.sent volatile → (j : ℕ) (node : Node V) → slice_get (slice_set w.nodes i (record { stored = stored; volatile = volatile })) j ≡ Some node →
    MemberFacts n j w.sent node
running_other {V} n w i stored volatile old facts is_there of_stored of_volatile j node e =
    let new : Node V = record { stored = stored; volatile = volatile } in
    elim (cases_eq j i) [
      | inl same ↦ (let e' : slice_get (slice_set w.nodes i new) i ≡ Some node = subst (λ k. slice_get (slice_set w.nodes i new) k ≡ Some node) same e in
          subst (MemberFacts n j w.sent) (same_Some new node (sym (get-set_same w.nodes i new old is_there) ∙ e'))
          (subst (λ k. MemberFacts n k w.sent new) (sym same) (record { stored = of_stored; running = of_volatile })))
      | inr differs ↦ facts.nodes j node (sym (get-set_other w.nodes i j new differs) ∙ e)
    ]

pub with_node_facts : {V : Type 0} (n : ℕ) (w : World V) (i : ℕ) (stored : DurableState V) (volatile : Option (VolatileState V)) (old : Node V) → WorldFacts n w → slice_get w.nodes i ≡ Some old →
    DurableFacts n i stored w.sent → RunningFacts n i stored w.sent volatile → WorldFacts n (with_node w i stored volatile)
unfolding with_node
with_node_facts n w i stored volatile old facts is_there of_stored of_volatile = record {
  size = length-set w.nodes i (record { stored = stored; volatile = volatile }) ∙ facts.size;
  messages = facts.messages;
  nodes = running_other n w i stored volatile old facts is_there of_stored of_volatile;
}

-- ---- a step

-- what is known of a step that has an effect
pub record TurnFacts {V : Type 0} (n : ℕ) (w : World V) (i : ℕ) (t : Turn V) : Type 0 where
  pub volatile : VolatileState V
  pub is_there : slice_get w.nodes i ≡ Some (record { stored = t.stored; volatile = Some volatile })
  pub before : DurableFacts n i t.stored w.sent
  pub step : TransitionFacts n i t.stored w.sent t.transition

abbrev pub SomeTurnFacts : {V : Type 0} → ℕ → World V → ℕ → Option (Turn V) → Type 0
SomeTurnFacts n w i None = ⊤
SomeTurnFacts n w i (Some t) = TurnFacts n w i t

module _ {V : Type 0} (same : V → V → Bool) (n : ℕ) (w : World V) (facts : WorldFacts n w) (i : ℕ) where
  abbrev SomeWasSent : Option (Input V) → Type 0
  SomeWasSent None = ⊤
  SomeWasSent (Some input) = WasSent n i nothing_stored w.sent same input

  -- A step that isn't rejected is a transition, from what is known of its node.
  turn_by : (stored : DurableState V) (volatile : VolatileState V) (input : Input V) (is_rejected : Bool) → slice_get w.nodes i ≡ Some (record { stored = stored; volatile = Some volatile }) →
      WasSent n i nothing_stored w.sent same input → is_some (step_rejection stored volatile input) ≡ is_rejected → SomeTurnFacts n w i (turn_running same n i stored (Some volatile) input)
  unfolding turn_running
  turn_by stored volatile input true is_there was_sent e = rw e tt
  turn_by stored volatile input false is_there was_sent e =
      let member : MemberFacts n i w.sent (record { stored = stored; volatile = Some volatile }) = facts.nodes i (record { stored = stored; volatile = Some volatile }) is_there in
      let known : NodeFacts n i stored volatile w.sent = record {
        is_node = is_node n w facts i (record { stored = stored; volatile = Some volatile }) is_there;
        messages = facts.messages;
        stored = member.stored;
        volatile = member.running;
      } in
      rw e (record { volatile = volatile; is_there = is_there; before = member.stored; step = transition_facts n i stored w.sent same volatile input known was_sent e })

  turn_running_facts : (stored : DurableState V) (volatile : Option (VolatileState V)) (input : Input V) → slice_get w.nodes i ≡ Some (record { stored = stored; volatile = volatile }) →
      WasSent n i nothing_stored w.sent same input → SomeTurnFacts n w i (turn_running same n i stored volatile input)
  unfolding turn_running
  turn_running_facts stored None input is_there was_sent = tt
  turn_running_facts stored (Some volatile) input is_there was_sent =
      turn_by stored volatile input (is_some (step_rejection stored volatile input)) is_there was_sent refl

  turn_of_facts : (node : Option (Node V)) (input : Option (Input V)) → slice_get w.nodes i ≡ node → SomeWasSent input → SomeTurnFacts n w i (turn_of same n i node input)
  unfolding turn_of
  turn_of_facts None input is_there was_sent = tt
  turn_of_facts (Some node) None is_there was_sent = tt
  turn_of_facts (Some node) (Some input) is_there was_sent = turn_running_facts node.stored node.volatile input is_there was_sent

  delivered_was_sent : (k : ℕ) (m : Option (Message V)) → slice_get w.sent k ≡ m → SomeWasSent (delivered m)
  unfolding delivered
  delivered_was_sent k None e = tt
  delivered_was_sent k (Some m) e = member-found m w.sent k e

  input_was_sent : (action : Action V ℕ) → SomeWasSent (input_of w.sent action)
  unfolding input_of
  input_was_sent (table.Propose d) = tt
  input_was_sent table.Retry = tt
  input_was_sent table.CatchUp = tt
  input_was_sent (table.Deliver k) = delivered_was_sent k (slice_get w.sent k) refl

  pub turn_facts : (action : Action V ℕ) → SomeTurnFacts n w i (turn same w i action)
  unfolding turn
  turn_facts action =
      subst (λ k. SomeTurnFacts n w i (turn_of same k i (slice_get w.nodes i) (input_of w.sent action))) (sym facts.size)
      (turn_of_facts (slice_get w.nodes i) (input_of w.sent action) refl (input_was_sent action))

-- ---- after a step

module _ {V : Type 0} (n : ℕ) (w : World V) (facts : WorldFacts n w) (i : ℕ) where
  -- every other node, while the transition's messages are sent
  other_running : (t : Turn V) (known : TurnFacts n w i t) (j : ℕ) (stored : DurableState V) (volatile : Option (VolatileState V)) → (j ≡ i → ⊥) →
      RunningFacts n j stored w.sent volatile → RunningFacts n j stored (w.sent ++ t.transition.messages) volatile
  other_running t known j stored None differs h = tt
  other_running t known j stored (Some volatile) differs h =
      volatile_other n i (store t.stored t.transition.entry) w.sent t.transition.messages j stored volatile differs known.step.sends h

  -- Node i is what its transition makes of it, and every other node keeps its facts while the
  -- transition's messages are sent.
  after_members : (t : Turn V) (known : TurnFacts n w i t) (j : ℕ) (node : Node V) →
      slice_get (slice_set w.nodes i (record { stored = store t.stored t.transition.entry; volatile = Some t.transition.volatile })) j ≡ Some node →
      MemberFacts n j (w.sent ++ t.transition.messages) node
  after_members t known j node e =
      let new : Node V = record { stored = store t.stored t.transition.entry; volatile = Some t.transition.volatile } in
      let old : Node V = record { stored = t.stored; volatile = Some known.volatile } in
      elim (cases_eq j i) [
        | inl same ↦ (let e' : slice_get (slice_set w.nodes i new) i ≡ Some node = subst (λ k. slice_get (slice_set w.nodes i new) k ≡ Some node) same e in
            let own : MemberFacts n i (w.sent ++ t.transition.messages) new = record {
              stored = emit_own n i (store t.stored t.transition.entry) w.sent t.transition.messages known.step.sends known.step.stored;
              running = known.step.volatile;
            } in
            subst (MemberFacts n j (w.sent ++ t.transition.messages)) (same_Some new node (sym (get-set_same w.nodes i new old known.is_there) ∙ e'))
            (subst (λ k. MemberFacts n k (w.sent ++ t.transition.messages) new) (sym same) own))
        | inr differs ↦ (let member : MemberFacts n j w.sent node = facts.nodes j node (sym (get-set_other w.nodes i j new differs) ∙ e) in
            record {
              stored = emit_other n i (store t.stored t.transition.entry) w.sent t.transition.messages j node.stored differs known.step.sends member.stored;
              running = other_running t known j node.stored node.volatile differs member.running;
            })
      ]

  after_turn_facts : (t : Option (Turn V)) → SomeTurnFacts n w i t → WorldFacts n (after_turn w i t)
  unfolding after_turn with_node stored_after
  after_turn_facts None known = facts
  after_turn_facts (Some t) known = record {
    size = length-set w.nodes i (record { stored = store t.stored t.transition.entry; volatile = Some t.transition.volatile }) ∙ facts.size;
    messages = emit_messages n i (store t.stored t.transition.entry) w.sent t.transition.messages known.step.sends facts.messages known.step.stored;
    nodes = after_members t known;
  }

  kept_facts : (kept : Kept) (t : Turn V) → TurnFacts n w i t → DurableFacts n i (kept_part kept t) w.sent
  unfolding kept_part stored_after
  kept_facts Before t known = known.before
  kept_facts After t known = known.step.stored

  after_torn_facts : (kept : Kept) (t : Option (Turn V)) → SomeTurnFacts n w i t → WorldFacts n (after_torn w i kept t)
  unfolding after_torn
  after_torn_facts kept None known = facts
  after_torn_facts kept (Some t) known =
      with_node_facts n w i (kept_part kept t) None (record { stored = t.stored; volatile = Some known.volatile }) facts known.is_there (kept_facts kept t known) tt

  stop_facts : (stored : DurableState V) (volatile : Option (VolatileState V)) → slice_get w.nodes i ≡ Some (record { stored = stored; volatile = volatile }) →
      WorldFacts n (stop_running w i stored volatile)
  unfolding stop_running
  stop_facts stored None is_there = facts
  stop_facts stored (Some volatile) is_there =
      let old : Node V = record { stored = stored; volatile = Some volatile } in
      let member : MemberFacts n i w.sent old = facts.nodes i old is_there in
      with_node_facts n w i stored None old facts is_there member.stored tt

  after_stop_facts : (node : Option (Node V)) → slice_get w.nodes i ≡ node → WorldFacts n (after_stop w i node)
  unfolding after_stop
  after_stop_facts None is_there = facts
  after_stop_facts (Some node) is_there = stop_facts node.stored node.volatile is_there

  restart_facts : (stored : DurableState V) (volatile : Option (VolatileState V)) → slice_get w.nodes i ≡ Some (record { stored = stored; volatile = volatile }) →
      WorldFacts n (restart_stopped w i stored volatile)
  unfolding restart_stopped
  restart_facts stored None is_there =
      let old : Node V = record { stored = stored; volatile = None } in
      let member : MemberFacts n i w.sent old = facts.nodes i old is_there in
      with_node_facts n w i stored (Some at_start) old facts is_there member.stored (at_start_facts n i stored w.sent)
  restart_facts stored (Some volatile) is_there = facts

  after_restart_facts : (node : Option (Node V)) → slice_get w.nodes i ≡ node → WorldFacts n (after_restart w i node)
  unfolding after_restart
  after_restart_facts None is_there = facts
  after_restart_facts (Some node) is_there = restart_facts node.stored node.volatile is_there

-- ---- events and runs

module _ {V : Type 0} (same : V → V → Bool) (n : ℕ) where
  pub happens_facts : (w : World V) (event : Event V) → WorldFacts n w → WorldFacts n (happens same w event)
  unfolding happens
  happens_facts w (Act i action) facts = after_turn_facts n w facts i (turn same w i action) (turn_facts same n w facts i action)
  happens_facts w (Stop i) facts = after_stop_facts n w facts i (slice_get w.nodes i) refl
  happens_facts w (Restart i) facts = after_restart_facts n w facts i (slice_get w.nodes i) refl
  happens_facts w (Torn i action kept) facts = after_torn_facts n w facts i kept (turn same w i action) (turn_facts same n w facts i action)

  pub steps_facts : (w : World V) (events : List (Event V)) → WorldFacts n w → WorldFacts n (steps same w events)
  unfolding steps
  steps_facts w [] facts = facts
  steps_facts w (event ∷ rest) facts = steps_facts (happens same w event) rest (happens_facts w event facts)

  pub after_facts : (events : List (Event V)) → WorldFacts n (after same n events)
  unfolding after
  after_facts events = steps_facts (start n) events (start_facts n)
