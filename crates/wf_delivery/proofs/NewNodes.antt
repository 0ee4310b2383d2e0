-- New nodes of which one asks for the next definition are new still: nothing is published, so
-- nothing is answered.
use Rattle.std.proofs.Common.{◌≡◌, ◌≢◌, ℕ, zero, suc, Bool, true, false, List, [], ◌∷◌, ◌++◌, map, nat_lt, slice_get, slice_set, Some, None, Result, Ok, Err, Vec, IsSome, refl, sym, ap, subst, ◌∙◌, inl, inr, arith, length}
use Rattle.std.specs.Prelude.{⊤}
use Rattle.wf_delivery.proofs.NewCommon.{AllByRecursion, Global, both_ways, cases_eq, false≢true, append-nil, none-some, same_Some, last_sequence, Message, Definition, DurableState, nothing_stored, published, definition_at, VolatileState, Input, Transition, most_reports, on_ask, on_catch_up, on_message, quiet, step_rejection, transition, only_sends, store, reports_from, reports_of, Node, stored_of, volatile_of, IsTransition, IsSameNode, IsStep, transition_of, NodeFault, PumpProgress, AreHanded, First, IsHanded, Next, none_before, Answers, Takes, AreFresh, IsFresh, outputs_by, get_set_other, get_set_same, set_there, NewStayNew, NoneHalted}
use Rattle.wf_codec.specs.Message as message
use Rattle.wf_model.specs.Message as model
use Rattle.wf_model.specs.Table as table
use Rattle.wf_model.specs.Table.{reports}
use Rattle.wf_node.specs.declared.fault.NodeFault.TheVariants as fault
use Rattle.wf_delivery.specs.NodeInput as giving
use Rattle.wf_delivery.proofs.Exactly.{keeps_failed}
use Rattle.wf_tape.specs.declared.tape.Tape.{Ghosts as Tape}

-- ---- the step table

-- the message asks what is published
abbrev IsAsk : model.Message Definition → Type 0
IsAsk (model.Prepare s b) = ⊥
IsAsk (model.Promise i s b votes) = ⊥
IsAsk (model.Accept s b d) = ⊥
IsAsk (model.Accepted i s b) = ⊥
IsAsk (model.Nack i s b promise) = ⊥
IsAsk (model.Chosen s d) = ⊥
IsAsk (model.Ask s) = ⊤

-- so does each of the messages
abbrev AllAsk : List Message → Type 0
AllAsk messages = AllByRecursion IsAsk (map message.view messages)

one_asks : (messages : List Message) (k : ℕ) (m : Message) → AllAsk messages → slice_get messages k ≡ Some m → IsAsk (message.view m)
one_asks [] k m all at = absurd (none-some m at)
one_asks (x ∷ messages) zero m all at = subst (λ y. IsAsk (message.view y)) (same_Some x m at) all.0
one_asks (x ∷ messages) (suc k) m all at = one_asks messages k m all.1 at

-- Where nothing is published, nothing is told.
none_reported : (count s : ℕ) → reports_from {V = Definition} [] s count ≡ []
unfolding reports_from reports reports_of definition_at
none_reported zero s = refl
none_reported (suc count) zero = none_reported count 1
none_reported (suc count) (suc s) = none_reported count (suc (suc s))

none_answered : (stored : DurableState Definition) (volatile : VolatileState Definition) (s : ℕ) → stored ≡ nothing_stored → (on_ask stored volatile s).messages ≡ []
unfolding on_ask only_sends nothing_stored
none_answered stored volatile s none = ap (λ (x : DurableState Definition). reports_from x.history s most_reports) none ∙ none_reported most_reports s

-- A transition that stores nothing, leaves the volatile state, and only asks.
record OnlyAsks (volatile : VolatileState Definition) (the_transition : Transition Definition) : Type 0 where
  entry : the_transition.entry ≡ None
  same : the_transition.volatile ≡ volatile
  asks : AllByRecursion IsAsk the_transition.messages

catches_up : (stored : DurableState Definition) (volatile : VolatileState Definition) (more : Bool) → nat_lt (published stored) last_sequence ≡ more → OnlyAsks volatile (on_catch_up stored volatile)
unfolding on_catch_up only_sends quiet
catches_up stored volatile true e = rw e (record { entry = refl; same = refl; asks = (tt, tt) })
catches_up stored volatile false e = rw e (record { entry = refl; same = refl; asks = tt })

-- ---- one node

-- no message's values are no messages
none_outputs : (outputs : List Message) → map message.view outputs ≡ [] → outputs ≡ []
none_outputs [] e = refl
none_outputs (m ∷ outputs) e = let none : suc (length (map message.view outputs)) ≡ 0 = ap length e in absurd (omega (arith, none))

module _ {T : Type 0} (node after : Node T) (fresh : IsFresh node) where
  -- after a transition that stores nothing and leaves the volatile state
  stepped_fresh : (input : Input Definition) (outputs : List Message) → IsTransition node (transition_of node input) outputs after → (transition_of node input).entry ≡ None → (transition_of node input).volatile ≡ volatile_of node → IsFresh after
  unfolding store
  stepped_fresh input outputs is entry same = record {
    runs = is.running;
    stored = is.stored ∙ ap (store (stored_of node)) entry ∙ fresh.stored;
    volatile = is.volatile ∙ same ∙ fresh.volatile;
  }

  -- unchanged but for its tape
  same_fresh : after.halted ≡ false → IsSameNode node after → IsFresh after
  same_fresh runs same = record { runs = runs; stored = ap stored_of same ∙ fresh.stored; volatile = ap volatile_of same ∙ fresh.volatile }

  module _ (tapes : Tape T) (outputs : List Message) (runs : after.halted ≡ false) where
    -- it is asked what is published
    answers_fresh : (m : model.Message Definition) → IsAsk m → Answers tapes (table.Deliver m) node after outputs → IsFresh after × (outputs ≡ [])
    unfolding step_rejection transition on_message on_ask only_sends
    answers_fresh (model.Prepare s b) asks takes = absurd asks
    answers_fresh (model.Promise i s b votes) asks takes = absurd asks
    answers_fresh (model.Accept s b d) asks takes = absurd asks
    answers_fresh (model.Accepted i s b) asks takes = absurd asks
    answers_fresh (model.Nack i s b promise) asks takes = absurd asks
    answers_fresh (model.Chosen s d) asks takes = absurd asks
    answers_fresh (model.Ask s) asks (giving.Halts halted same none) = absurd (both_ways node.halted fresh.runs halted)
    answers_fresh (model.Ask s) asks (giving.Rejects why running refused same none) = absurd (none-some why refused)
    answers_fresh (model.Ask s) asks (giving.Steps running goes is grown) =
        (stepped_fresh (table.Deliver (model.Ask s)) outputs is refl refl, none_outputs outputs (is.messages ∙ none_answered (stored_of node) (volatile_of node) s fresh.stored))
    answers_fresh (model.Ask s) asks (giving.Fails running goes halts same keeps part each none) = absurd (both_ways after.halted runs halts)

    takes_fresh : (m : model.Message Definition) → IsAsk m → (lost : Bool) → Takes tapes lost (table.Deliver m) node after outputs → IsFresh after × (outputs ≡ [])
    takes_fresh m asks true is = (same_fresh is.still is.same, is.quiet)
    takes_fresh m asks false is = answers_fresh m asks is

-- ---- the nodes

set_fresh : {T : Type 0} (nodes : List (Node T)) (i : ℕ) (node after : Node T) → AreFresh nodes → slice_get nodes i ≡ Some node → IsFresh after → AreFresh (slice_set nodes i after)
unfolding AreFresh
set_fresh nodes i node after fresh at is = λ j n e. elim (cases_eq j i) [
  | inl same ↦ subst IsFresh (get_set_same nodes i after node n at (subst (λ k. slice_get (slice_set nodes i after) k ≡ Some n) same e)) is
  | inr differs ↦ fresh j n (sym (get_set_other nodes i j after differs) ∙ e)
]

module _ {T : Type 0} (tapes : Tape T) where
  module _ (i k : ℕ) (loses : Bool) (nodes after : List (Node T)) (sent more : List Message) (one : IsHanded tapes i k loses nodes sent after more) (fresh : AreFresh nodes) (asks : AllAsk sent) (none : NoneHalted after) where
    runs_there : one.after.halted ≡ false
    unfolding NoneHalted
    runs_there = none i one.after (subst (λ ns. slice_get ns i ≡ Some one.after) (sym one.nodes_are) (set_there nodes i one.after one.node one.at))

    given : IsFresh one.after × (one.outputs ≡ [])
    unfolding AreFresh
    given = takes_fresh one.node one.after (fresh i one.node one.at) tapes one.outputs runs_there (message.view one.handed) (one_asks sent k one.handed asks one.there) loses one.takes

    one_fresh : AreFresh after × (more ≡ sent)
    one_fresh = (
      subst AreFresh (sym one.nodes_are) (set_fresh nodes i one.node one.after fresh one.at given.0),
      one.sent_are ∙ ap (λ ms. sent ++ ms) given.1 ∙ append-nil sent,
    )

  module _ (nodes : List (Node T)) (messages : List Message) (fresh : AreFresh nodes) (asks : AllAsk messages) where
    all_fresh : (p : PumpProgress) (lost : ℕ) (after : List (Node T)) (sent : List Message) → AreHanded tapes nodes messages p lost after sent → NoneHalted after → AreFresh after × (sent ≡ messages)
    all_fresh _ _ _ _ First none = (fresh, refl)
    all_fresh _ _ _ _ (Next p lost loses middle after outputs more handed one) none =
        let so : AreFresh middle × (outputs ≡ messages) = all_fresh p lost middle outputs handed (none_before middle after (keeps_failed tapes p.some p.whole middle after outputs more loses one) none) in
        let here = one_fresh p.some p.whole loses middle after outputs more one so.0 (subst AllAsk (sym so.1) asks) none in
        (here.0, here.1 ∙ so.1)

-- ---- a node is asked to catch up

module _ {T : Type 0} (before asked : Node T) (fresh : IsFresh before) where
  the_transition : OnlyAsks (volatile_of before) (transition_of before table.CatchUp)
  unfolding transition
  the_transition = catches_up (stored_of before) (volatile_of before) (nat_lt (published (stored_of before)) last_sequence) refl

  unchanged_fresh : asked ≡ before → IsFresh asked
  unchanged_fresh same = subst IsFresh (sym same) fresh

  failed_fresh : (f : NodeFault) → IsSameNode before asked → (f ≡ fault.Memory → asked.halted ≡ false) → (f ≡ fault.TapeFailed → IsSome (transition_of before table.CatchUp).entry) → (f ≢ fault.Memory → f ≢ fault.TapeFailed → asked ≡ before) → IsFresh asked
  failed_fresh fault.Memory same runs writes unchanged = same_fresh before asked fresh (runs refl) same
  failed_fresh fault.TapeFailed same runs writes unchanged = absurd (false≢true (subst IsSome the_transition.entry (writes refl)))
  failed_fresh fault.Busy same runs writes unchanged = unchanged_fresh (unchanged (λ e. cc) (λ e. cc))
  failed_fresh fault.SequenceFull same runs writes unchanged = unchanged_fresh (unchanged (λ e. cc) (λ e. cc))
  failed_fresh fault.RoundsFull same runs writes unchanged = unchanged_fresh (unchanged (λ e. cc) (λ e. cc))
  failed_fresh fault.Halted same runs writes unchanged = unchanged_fresh (unchanged (λ e. cc) (λ e. cc))
  failed_fresh fault.Nothing same runs writes unchanged = unchanged_fresh (unchanged (λ e. cc) (λ e. cc))

  asked_fresh : (tapes : Tape T) (answer : Result (Vec Message Global) NodeFault) → IsStep tapes before table.CatchUp answer asked →
      IsFresh asked × AllAsk (outputs_by answer)
  asked_fresh tapes (Ok outputs) step =
      (stepped_fresh before asked fresh table.CatchUp outputs.items step.done the_transition.entry the_transition.same, subst (AllByRecursion IsAsk) (sym step.done.messages) the_transition.asks)
  asked_fresh tapes (Err f) step = (failed_fresh f step.same (λ e. step.still_running (ap Err e)) (λ e. step.writes (ap Err e)) step.unchanged, tt)

pub new_stay_new : {T : Type 0} (tapes : Tape T) → NewStayNew tapes
unfolding AreFresh
new_stay_new tapes = λ nodes after i before asked answer done lost stopped fresh at step out none.
    let so = asked_fresh before asked (fresh i before at) tapes answer step in
    (all_fresh tapes (slice_set nodes i asked) (outputs_by answer) (set_fresh nodes i before asked fresh at so.0) so.1 out.come lost after out.sent out.handed none).0
