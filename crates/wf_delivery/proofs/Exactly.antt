-- Deliveries of which none is lost, and at which no tape fails, are those of whole rounds; and
-- these end once.
use Rattle.std.proofs.Common.{◌≡◌, ◌≤◌, ◌<◌, ◌+◌, ◌-◌, ℕ, zero, suc, Bool, true, false, List, [], ◌∷◌, ◌++◌, length, slice_get, slice_set, get_or, Some, refl, sym, ap, subst, ◌∙◌, inl, inr, arith, length-append, if◌then◌else◌, ◌==◌}
use Rattle.wf_delivery.proofs.NewCommon.{both_ways, cases_lt, append-nil, length-map, none-some, slice_get_past, slice_get_within, Message, Definition, definition_eq, steps_in_turn, step_rejection, World, deliver, after_turn, happens, input_of, steps, Node, PumpProgress, AnyPart, Refines, StandInTurn, KeepHalted, KeepTurn, IsHanded, AreHanded, First, Next, none_before, keeps_turn, keeps_turn_itself, keeps_turn_twice, Answers, set_there, counted, next, NoneHalted, DeliveredExactly, begun, deliveries, rounds, to_each}
use Rattle.wf_codec.specs.Message as message
use Rattle.wf_model.specs.Table as table
use Rattle.wf_model.specs.World as world
use Rattle.wf_delivery.specs.NodeInput as giving
use Rattle.wf_delivery.proofs.DeliveryCount.{begun_most}
use Rattle.wf_delivery.proofs.Deliveries.{keeps_halted, stays_halted, stays_itself, steps_shown}
use Rattle.wf_delivery.proofs.Runs.{sent_message, steps_more}
use Rattle.wf_delivery.proofs.UpTo.{IsUpTo, targets_up_to}
use Rattle.wf_delivery.proofs.Rounds.{no_deliveries, one_more, rounds_more, whole_round}
use Rattle.wf_delivery.proofs.Turns.{turn_unsent}
use Rattle.wf_tape.specs.declared.tape.Tape.{Ghosts as Tape}

-- ---- one delivery

module _ {T : Type 0} (tapes : Tape T) (i k : ℕ) (nodes after : List (Node T)) (sent more : List Message) where
  module _ (loses : Bool) (one : IsHanded tapes i k loses nodes sent after more) where
    pub keeps_failed : KeepHalted nodes after
    keeps_failed =
        subst (KeepHalted nodes) (sym one.nodes_are)
        (keeps_halted nodes i one.node one.after one.at (stays_halted tapes one.node one.after (table.Deliver (message.view one.handed)) one.outputs loses one.takes))

    keeps_index : KeepTurn nodes after
    keeps_index =
        subst (KeepTurn nodes) (sym one.nodes_are)
        (keeps_turn nodes i one.node one.after one.at (stays_itself tapes one.node one.after (table.Deliver (message.view one.handed)) one.outputs loses one.takes))

  module _ (one : IsHanded tapes i k false nodes sent after more) (w : World Definition) (turns : StandInTurn nodes) (refines : Refines AnyPart nodes sent w) (running : NoneHalted nodes) (none : NoneHalted after) where
    runs_here : one.node.halted ≡ false
    unfolding NoneHalted
    runs_here = running i one.node one.at

    runs_there : one.after.halted ≡ false
    unfolding NoneHalted
    runs_there = none i one.after (subst (λ ns. slice_get ns i ≡ Some one.after) (sym one.nodes_are) (set_there nodes i one.after one.node one.at))

    takes_exactly : Answers tapes (table.Deliver (message.view one.handed)) one.node one.after one.outputs → Refines AnyPart (slice_set nodes i one.after) (sent ++ one.outputs) (happens definition_eq w (deliver i k))
    unfolding happens step_rejection
    takes_exactly (giving.Halts halted same quiet) = absurd (both_ways one.node.halted runs_here halted)
    takes_exactly (giving.Rejects why runs refused same quiet) = absurd (none-some why refused)
    takes_exactly (giving.Steps runs goes is grown) =
        steps_shown AnyPart nodes sent i one.node one.after (table.Deliver k) (table.Deliver (message.view one.handed)) one.at (sent_message sent k one.handed one.there) turns w one.outputs runs goes is refines
    takes_exactly (giving.Fails runs goes halts same keeps part each quiet) = absurd (both_ways one.after.halted runs_there halts)

    -- The delivery leads to exactly the world after it.
    one_exactly : Refines AnyPart after more (happens definition_eq w (deliver i k))
    one_exactly =
        subst (λ ns. Refines AnyPart ns more (happens definition_eq w (deliver i k))) (sym one.nodes_are)
        (subst (λ ms. Refines AnyPart (slice_set nodes i one.after) ms (happens definition_eq w (deliver i k))) (sym one.sent_are) (takes_exactly one.takes))

-- as many messages were sent as the world has
pub as_many_sent : {T : Type 0} (nodes : List (Node T)) (sent : List Message) (w : World Definition) → Refines AnyPart nodes sent w → length w.sent ≡ length sent
as_many_sent nodes sent w refines = ap length refines.messages ∙ length-map sent message.view

-- ---- many deliveries

none_lost : (lost : ℕ) (loses : Bool) → counted lost loses ≡ 0 → (lost ≡ 0) × (loses ≡ false)
none_lost lost true none = absurd (omega (arith, none))
none_lost lost false none = (none, refl)

module _ {T : Type 0} (tapes : Tape T) (nodes : List (Node T)) (messages : List Message) (w : World Definition) (targets : List ℕ) where
  abbrev world_after : ℕ → ℕ → World Definition
  world_after whole some = steps definition_eq w (deliveries targets 0 whole some)

  -- The deliveries so far were those of a pump, each of a message that was sent by then.
  record HasGone (p : PumpProgress) (after : List (Node T)) (sent : List Message) : Type 0 where
    refines : Refines AnyPart after sent (world_after p.whole p.some)
    counted : length (deliveries targets 0 p.whole p.some) ≡ p.done
    part : p.some < length targets
    turn : KeepTurn nodes after
    left : (k : ℕ) → k < p.whole + begun p.some → k < length (world_after k 0).sent

  gone_nowhere : 0 < length targets → Refines AnyPart nodes messages w → HasGone (record { whole = 0; some = 0; done = 0 }) nodes messages
  unfolding steps
  gone_nowhere some refines = record {
    refines = subst (λ es. Refines AnyPart nodes messages (steps definition_eq w es)) (sym (no_deliveries targets 0)) refines;
    counted = ap length (no_deliveries targets 0);
    part = some;
    turn = keeps_turn_itself nodes;
    left = λ k below. absurd (omega (arith, below));
  }

  module _ (p : PumpProgress) (middle after : List (Node T)) (outputs more : List Message) (gone : HasGone p middle outputs) (one : IsHanded tapes p.some p.whole false middle outputs after more)
      (own : get_or targets p.some 0 ≡ p.some) (turns : StandInTurn nodes) (none : NoneHalted after) where
    one_named : IsHanded tapes (get_or targets p.some 0) (0 + p.whole) false middle outputs after more
    one_named =
        subst (λ i. IsHanded tapes i (0 + p.whole) false middle outputs after more) (sym own)
        (subst (λ k. IsHanded tapes p.some k false middle outputs after more) (let same : p.whole ≡ 0 + p.whole = omega arith in same) one)

    one_further : Refines AnyPart after more (world_after p.whole (p.some + 1))
    one_further =
        let so_far = deliveries targets 0 p.whole p.some in let event = deliver (get_or targets p.some 0) (0 + p.whole) in
        subst (λ es. Refines AnyPart after more (steps definition_eq w es)) (one_more targets 0 p.whole p.some gone.part)
        (subst (Refines AnyPart after more) (sym (steps_more w so_far event))
        (one_exactly tapes (get_or targets p.some 0) (0 + p.whole) middle after outputs more one_named (world_after p.whole p.some) (gone.turn.in_turn turns) gone.refines
        (none_before middle after (keeps_failed tapes p.some p.whole middle after outputs more false one) none) none))

    counted_further : length (deliveries targets 0 p.whole (p.some + 1)) ≡ p.done + 1
    counted_further =
        ap length (sym (one_more targets 0 p.whole p.some gone.part)) ∙ length-append (deliveries targets 0 p.whole p.some) (deliver (get_or targets p.some 0) (0 + p.whole) ∷ []) ∙ ap (λ k. k + 1) gone.counted

    is_sent : p.whole < length (world_after p.whole p.some).sent
    is_sent = let there : p.whole < length outputs = slice_get_within outputs p.whole one.handed one.there in omega (arith, there, as_many_sent middle outputs (world_after p.whole p.some) gone.refines)

    -- whether the delivery is the first one of its message or not
    left_by : (some : ℕ) → p.some ≡ some → (k : ℕ) → k < p.whole + 1 → k < length (world_after k 0).sent
    left_by zero is k below = elim (cases_lt k p.whole) [
      | inl earlier ↦ gone.left k (omega (arith, earlier))
      | inr last ↦
          let it : p.whole ≡ k = omega (arith, last, below) in
          subst (λ m. m < length (world_after m 0).sent) it (subst (λ m. p.whole < length (world_after p.whole m).sent) is is_sent)
    ]
    left_by (suc some) is k below = gone.left k (omega (arith, below, ap begun is))

    further_by : (whole : Bool) → (p.some + 1 == length targets) ≡ whole →
        HasGone (if whole then record { whole = p.whole + 1; some = 0; done = p.done + 1 } else record { whole = p.whole; some = p.some + 1; done = p.done + 1 }) after more
    further_by true all =
        let is = whole_round targets 0 p.whole (p.some + 1) (grind (arith, all)) in record {
          refines = subst (λ es. Refines AnyPart after more (steps definition_eq w es)) is one_further;
          counted = ap length (sym is) ∙ counted_further;
          part = omega (arith, gone.part);
          turn = keeps_turn_twice nodes middle after gone.turn (keeps_index tapes p.some p.whole middle after outputs more false one);
          left = λ k below. left_by p.some refl k (omega (arith, below));
        }
    further_by false some = record {
      refines = one_further;
      counted = counted_further;
      part = grind (arith, some, gone.part);
      turn = keeps_turn_twice nodes middle after gone.turn (keeps_index tapes p.some p.whole middle after outputs more false one);
      left = λ k below. left_by p.some refl k (omega (arith, below, begun_most (p.some + 1)));
    }

    gone_further : HasGone (next (length targets) p) after more
    gone_further = further_by (p.some + 1 == length targets) refl

  module _ (refines : Refines AnyPart nodes messages w) (turns : StandInTurn nodes) (some : 0 < length nodes) (are : IsUpTo (length nodes) targets) where
    gone_exactly : (p : PumpProgress) (lost : ℕ) (after : List (Node T)) (sent : List Message) → AreHanded tapes nodes messages p lost after sent → lost ≡ 0 → NoneHalted after → HasGone p after sent
    gone_exactly _ _ _ _ First kept none = gone_nowhere (omega (arith, some, are.long)) refines
    gone_exactly _ _ _ _ (Next p lost loses middle after outputs more handed one) kept none =
        let before = none_lost lost loses kept in
        let gone = gone_exactly p lost middle outputs handed before.0 (none_before middle after (keeps_failed tapes p.some p.whole middle after outputs more loses one) none) in
        subst (λ n. HasGone (next n p) after more) are.long
        (gone_further p middle after outputs more gone (subst (λ b. IsHanded tapes p.some p.whole b middle outputs after more) before.1 one)
        (are.own p.some 0 (omega (arith, gone.part, are.long))) turns none)

pub delivered_exactly : {T : Type 0} (tapes : Tape T) → DeliveredExactly tapes
delivered_exactly tapes = λ nodes after messages done stopped w targets some are turns refines out none.
    let gone = gone_exactly tapes nodes messages w targets refines turns some (targets_up_to (length nodes) targets are) out.come 0 after out.sent out.handed refl none in
    record { come = out.come; part = gone.part; counted = gone.counted ∙ out.count; sent = out.sent; refines = gone.refines; ended = out.ended }

-- ---- no message is left

-- The delivery of a message that wasn't sent has no effect, and so have the deliveries of any later
-- one.
no_delivery : (w : World Definition) (i k : ℕ) → length w.sent ≤ k → happens definition_eq w (deliver i k) ≡ w
unfolding happens after_turn input_of world.delivered
no_delivery w i k unsent = ap (after_turn w i) (turn_unsent definition_eq w i (table.Deliver k) (ap world.delivered (slice_get_past w.sent k unsent)))

none_to_each : (w : World Definition) (targets : List ℕ) (k : ℕ) → length w.sent ≤ k → steps definition_eq w (to_each targets k) ≡ w
unfolding steps to_each
none_to_each w [] k unsent = refl
none_to_each w (i ∷ targets) k unsent = ap (λ (x : World Definition). steps definition_eq x (to_each targets k)) (no_delivery w i k unsent) ∙ none_to_each w targets k unsent

module _ (w : World Definition) (targets : List ℕ) where
  -- the world after so many rounds
  abbrev pub after_rounds : ℕ → World Definition
  after_rounds k = steps definition_eq w (rounds targets 0 k)

  -- once none is left, more rounds have no effect
  still_after : (k more : ℕ) → length (after_rounds k).sent ≤ k → after_rounds (k + more) ≡ after_rounds k
  still_after k zero none = ap after_rounds (omega arith)
  still_after k (suc more) none =
      ap after_rounds (let next : k + suc more ≡ suc (k + more) = omega arith in next)
      ∙ ap (steps definition_eq w) (sym (rounds_more targets 0 (k + more)))
      ∙ steps_in_turn Definition definition_eq w (rounds targets 0 (k + more)) (to_each targets (0 + (k + more)))
      ∙ ap (λ (x : World Definition). steps definition_eq x (to_each targets (0 + (k + more)))) (still_after k more none)
      ∙ none_to_each (after_rounds k) targets (0 + (k + more)) (omega (arith, none))

  -- None is left for the first time after as many rounds as there are messages then.
  no_later : (k last : ℕ) → k ≡ length (after_rounds k).sent → last ≡ length (after_rounds last).sent → k < last → ⊥
  no_later k last none ends later =
      let same : after_rounds last ≡ after_rounds k = ap after_rounds (let is : last ≡ k + (last - k) = omega (arith, later) in is) ∙ still_after k (last - k) (omega (arith, none)) in
      omega (arith, later, none, ends, ap (λ (x : World Definition). length x.sent) same)

  pub ends_once : (k last : ℕ) → k ≡ length (after_rounds k).sent → last ≡ length (after_rounds last).sent → k ≡ last
  ends_once k last none ends = elim (cases_lt k last) [
    | inl later ↦ absurd (no_later k last none ends later)
    | inr not_later ↦ elim (cases_lt last k) [
      | inl earlier ↦ absurd (no_later last k ends none earlier)
      | inr not_earlier ↦ omega (arith, not_later, not_earlier)
    ]
  ]

  pub whole_rounds : (whole : ℕ) → deliveries targets 0 whole 0 ≡ rounds targets 0 whole
  unfolding deliveries to_each
  whole_rounds whole = append-nil (rounds targets 0 whole)
