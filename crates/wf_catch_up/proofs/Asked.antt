-- Questions, and their answers to who asked alone, are events of the model that lead the nodes on.
use Rattle.std.proofs.Common.{◌≡◌, ◌<◌, ◌≤◌, ◌+◌, ◌||◌, ℕ, zero, suc, Bool, true, false, List, [], ◌∷◌, ◌++◌, map, length, slice_get, slice_set, Some, refl, sym, ap, subst, ◌∙◌, inl, inr, arith, append_assoc, slice_index_or, take, drop, ◌-◌}
use Rattle.wf_catch_up.proofs.Common.{lt-ltb, append-nil, take_all, none-some, last_sequence, Message, Definition, definition_eq, DurableState, next_sequence, published, most_reports, on_ask, on_catch_up, on_message, step_rejection, transition, only_sends, store, reports_from, World, steps, Node, volatile_of, IsTransition, transition_of, bytes_of, Asks, CatchUpIsReachable, HasReceived, HaveAsked, IsOneQuestion, IsDeliveryTaken, LevelRests, Rests, StandLevel, AnyPart, IsOne, Refines, StandFor, StandInTurn, TakeOne, halted_twice, keeps_turn_twice, IsSturdy, Takes, AreReachableFrom, AreReachableSending, IsReachableWith, ReachSending, set_same, set_there, KeepsEntry, Running, set_twice}
use Rattle.std.proofs.Math.Bool.{or_assoc}
use Rattle.wf_codec.specs.Message as message
use Rattle.wf_codec.specs.declared.message.Message.TheVariants as code
use Rattle.wf_model.specs.Table as table
use Rattle.wf_delivery.specs.NodeInput as giving
use Rattle.wf_delivery.proofs.Deliveries.{left_before, one_delivery, stays_itself}
use Rattle.wf_catch_up.proofs.Level.{count_of, not_level}
use Rattle.wf_delivery.proofs.OneRun.{nothing_is_reachable, takes_reachable, reachable_is_transitive, unheard_is_reachable}
use Rattle.wf_delivery.proofs.Runs.{steps_more}
use Rattle.wf_tape.specs.declared.tape.Tape.{Ghosts as Tape}

-- ---- lists

get_after : {A : Type 0} (xs ys : List A) (k : ℕ) (y : A) → slice_get ys k ≡ Some y → slice_get (xs ++ ys) (length xs + k) ≡ Some y
get_after {A} [] ys k y at = subst (λ j. slice_get ys j ≡ Some y) (omega arith) at
get_after {A} (x ∷ xs) ys k y at =
    let next : suc (length xs + k) ≡ length (x ∷ xs) + k = omega arith in
    subst (λ j. slice_get (x ∷ (xs ++ ys)) j ≡ Some y) next (get_after xs ys k y at)

get_before : {A : Type 0} (xs ys : List A) (k : ℕ) (x : A) → slice_get xs k ≡ Some x → slice_get (xs ++ ys) k ≡ Some x
get_before [] ys k x at = absurd (none-some x at)
get_before (z ∷ xs) ys zero x at = at
get_before (z ∷ xs) ys (suc k) x at = get_before xs ys k x at

or_false : (b : Bool) → (b || false) ≡ b
or_false true = refl
or_false false = refl

-- each of these messages was sent
abbrev AreSent : List Message → List Message → Type 0
AreSent [] sent = Unit {0}
AreSent (m ∷ rest) sent = ((k : ℕ) × (slice_get sent k ≡ Some m)) × AreSent rest sent

sent_more : (messages sent more : List Message) → AreSent messages sent → AreSent messages (sent ++ more)
sent_more [] sent more are = tt
sent_more (m ∷ rest) sent more are = ((are.0.0, get_before sent more are.0.0 m are.0.1), sent_more rest sent more are.1)

sent_after : (messages sent : List Message) (first : Message) → AreSent messages sent → AreSent messages (first ∷ sent)
sent_after [] sent first are = tt
sent_after (m ∷ rest) sent first are = ((suc are.0.0, are.0.1), sent_after rest sent first are.1)

sent_themselves : (messages : List Message) → AreSent messages messages
sent_themselves [] = tt
sent_themselves (m ∷ rest) = ((0, refl), sent_after rest rest m (sent_themselves rest))

-- ---- a message that was sent is delivered to one node

module _ {T : Type 0} (stands : ℕ → DurableState Definition → Type 0) (nodes middle after : List (Node T)) (outputs more : List Message) where
  sends_more : ReachSending stands nodes outputs middle → ((sent : List Message) → TakeOne stands middle (sent ++ outputs) after ((sent ++ outputs) ++ more)) → ReachSending stands nodes (outputs ++ more) after
  unfolding ReachSending TakeOne
  sends_more reaches takes = λ w sent refines.
      let reachable = reaches w sent refines in
      subst (IsReachableWith stands w after) (append_assoc sent outputs more)
      (elim (takes sent (steps definition_eq w reachable.events) reachable.refines) [
        | inl still ↦ record { events = reachable.events; refines = still }
        | inr (event, is, shown) ↦ record { events = reachable.events ++ event ∷ []; refines = subst (λ (x : World Definition). Refines stands after ((sent ++ outputs) ++ more) x) (sym (steps_more w reachable.events event)) shown }
      ])

module _ {T : Type 0} (tapes : Tape T) (nodes middle : List (Node T)) (outputs : List Message) (i k : ℕ) (node after : Node T) (m : Message) (more : List Message) (lost : Bool)
    (at : slice_get middle i ≡ Some node) (there : slice_get outputs k ≡ Some m) (turns : StandInTurn nodes) (takes : Takes tapes lost (table.Deliver (message.view m)) node after more)
    (reachable : AreReachableSending tapes nodes outputs middle) where
  one_of : (sent : List Message) → IsOne tapes middle (sent ++ outputs) (slice_set middle i after) ((sent ++ outputs) ++ more)
  one_of sent = one_delivery tapes middle (sent ++ outputs) i (length sent + k) node after m more at (get_after sent outputs k m there) (reachable.turn.in_turn turns) lost takes

  delivered_reachable : AreReachableSending tapes nodes (outputs ++ more) (slice_set middle i after)
  delivered_reachable = record {
    any = sends_more AnyPart nodes middle (slice_set middle i after) outputs more reachable.any (λ sent. (one_of sent).any);
    on_tape = λ h left may.
        sends_more (StandFor left) nodes middle (slice_set middle i after) outputs more
        (reachable.on_tape h left (left_before tapes middle (slice_set middle i after) left (one_of []).halted may)) (λ sent. (one_of sent).on_tape h left may);
    halted = halted_twice nodes middle (slice_set middle i after) reachable.halted (one_of []).halted;
    turn = keeps_turn_twice nodes middle (slice_set middle i after) reachable.turn (one_of []).turn;
  }

-- Messages that were sent are delivered to one node, one after the other.
module _ {T : Type 0} (tapes : Tape T) (nodes : List (Node T)) (i : ℕ) (turns : StandInTurn nodes) where
  received_reachable : (messages outputs : List Message) (lost : Bool) (middle : List (Node T)) (node after : Node T) → AreSent messages outputs → slice_get middle i ≡ Some node → HasReceived tapes messages lost node after →
      AreReachableSending tapes nodes outputs middle → (sent : List Message) × AreReachableSending tapes nodes sent (slice_set middle i after)
  unfolding HasReceived
  received_reachable [] outputs lost middle node after sent at received reachable =
      (outputs, subst (AreReachableSending tapes nodes outputs) (sym (ap (slice_set middle i) received.1 ∙ set_same middle i node at)) reachable)
  received_reachable (m ∷ rest) outputs lost middle node after sent at (inl losing) reachable =
      (outputs ++ losing.1.outputs, delivered_reachable tapes nodes middle outputs i sent.0.0 node after m losing.1.outputs true at sent.0.1 turns losing.1.takes reachable)
  received_reachable (m ∷ rest) outputs lost middle node after sent at (inr (next, taken, received)) reachable =
      let on = delivered_reachable tapes nodes middle outputs i sent.0.0 node next m taken.outputs false at sent.0.1 turns taken.takes reachable in
      let more = received_reachable rest (outputs ++ taken.outputs) lost (slice_set middle i next) next after (sent_more rest outputs taken.outputs sent.1) (set_there middle i next node at) received on in
      (more.0, subst (AreReachableSending tapes nodes more.0) (set_twice middle i next after) more.1)

-- ---- a question

module _ {T : Type 0} (tapes : Tape T) (asked requester : ℕ) (nodes after : List (Node T)) (lost : Bool) (turns : StandInTurn nodes) (is : IsOneQuestion tapes asked requester nodes lost after) where
  asking_reachable : AreReachableSending tapes nodes (is.question ∷ []) nodes
  asking_reachable = subst (AreReachableSending tapes nodes (is.question ∷ [])) (set_same nodes requester is.before is.requester_at) (takes_reachable tapes nodes requester is.before is.before table.CatchUp (is.question ∷ []) is.requester_at turns tt false is.asks)

  answering_reachable : AreReachableSending tapes nodes (is.question ∷ is.answer) nodes
  answering_reachable =
      subst (AreReachableSending tapes nodes (is.question ∷ is.answer)) (set_same nodes asked is.other is.asked_at)
      (delivered_reachable tapes nodes nodes (is.question ∷ []) asked 0 is.other is.other is.question is.answer is.unanswered is.asked_at refl turns is.answers asking_reachable)

  question_reachable : AreReachableFrom tapes nodes after
  question_reachable =
      let sent = sent_after is.answer is.answer is.question (sent_themselves is.answer) in
      let received = received_reachable tapes nodes requester turns is.answer (is.question ∷ is.answer) is.unheard nodes is.before is.after sent is.requester_at is.receives answering_reachable in
      subst (AreReachableFrom tapes nodes) (sym is.nodes_are) (unheard_is_reachable tapes nodes (slice_set nodes requester is.after) received.0 received.1)

-- ---- many questions

module _ {T : Type 0} (tapes : Tape T) (asked : ℕ) (nodes : List (Node T)) where
  pub have_asked_reachable : (lost : Bool) (after : List (Node T)) → StandInTurn nodes → HaveAsked tapes asked nodes lost after → AreReachableFrom tapes nodes after
  have_asked_reachable _ _ turns Rests = nothing_is_reachable tapes nodes
  have_asked_reachable _ _ turns (Asks requester lost loses middle after so_far is) =
      let reachable = have_asked_reachable lost middle turns so_far in
      reachable_is_transitive tapes nodes middle after reachable (question_reachable tapes asked requester middle after loses (reachable.turn.in_turn turns) is)

  -- Where all nodes that run stand level, none asks.
  none_asked : (lost : Bool) (after : List (Node T)) → StandLevel nodes → HaveAsked tapes asked nodes lost after → after ≡ nodes
  none_asked _ _ level Rests = refl
  none_asked _ _ level (Asks requester lost loses middle after so_far is) =
      let same = none_asked lost middle level so_far in
      absurd (not_level middle asked requester is.behind (subst StandLevel (sym same) level))

  -- More questions to the same node.
  pub asked_twice : (lost : Bool) (middle : List (Node T)) (loses : Bool) (after : List (Node T)) → HaveAsked tapes asked nodes lost middle → HaveAsked tapes asked middle loses after → HaveAsked tapes asked nodes (lost || loses) after
  asked_twice lost middle _ _ first Rests = subst (λ b. HaveAsked tapes asked nodes b middle) (sym (or_false lost)) first
  asked_twice lost middle _ _ first (Asks requester others loses between after so_far is) =
      subst (λ b. HaveAsked tapes asked nodes b after) (or_assoc lost others loses)
      (Asks requester (lost || others) loses between after (asked_twice lost middle others between first so_far) is)

pub catch_up_is_reachable : {T : Type 0} (tapes : Tape T) → CatchUpIsReachable tapes
catch_up_is_reachable tapes = λ nodes after lost turns caught. have_asked_reachable tapes caught.asked nodes lost after turns caught.have_asked

pub level_rests : {T : Type 0} (tapes : Tape T) → LevelRests tapes
level_rests tapes = λ nodes after lost level caught. none_asked tapes caught.asked nodes lost after level caught.have_asked

-- ---- what a question is, by what the program does

module _ {T : Type 0} (tapes : Tape T) (node : Node T) (runs : node.halted ≡ false) where
  -- A node that hasn't published the last sequence asks for the next one, and is unchanged.
  catch_up_transition : length node.parts.history < last_sequence → transition_of node table.CatchUp ≡ only_sends (volatile_of node) (message.view (code.Ask (count_of node + 1)) ∷ [])
  unfolding transition on_catch_up published next_sequence
  catch_up_transition less = rw (lt-ltb (length node.parts.history) last_sequence less) refl

  pub asks_next : length node.parts.history < last_sequence → Takes tapes false table.CatchUp node node (code.Ask (count_of node + 1) ∷ [])
  unfolding step_rejection only_sends store
  asks_next less =
      let its = catch_up_transition less in
      giving.Steps runs refl
      (subst (λ r. IsTransition node r (code.Ask (count_of node + 1) ∷ []) node) (sym its) (record { id = refl; n = refl; running = runs; stored = refl; volatile = refl; messages = refl }))
      (λ h. sym (ap (λ r. tapes.content node.tape ++ bytes_of r.entry) its ∙ append-nil (tapes.content node.tape)))

  -- A node answers a question, and is unchanged.
  pub answers_ask : (s : ℕ) (answer : List Message) → map message.view answer ≡ reports_from node.parts.history s most_reports → Takes tapes false (table.Deliver (message.view (code.Ask s))) node node answer
  unfolding step_rejection transition on_message on_ask only_sends store
  answers_ask s answer is =
      giving.Steps runs refl (record { id = refl; n = refl; running = runs; stored = refl; volatile = refl; messages = is }) (λ h. sym (append-nil (tapes.content node.tape)))

  pub loses_ask : (s : ℕ) → Takes tapes true (table.Deliver (message.view (code.Ask s))) node node []
  loses_ask s = record { runs = runs; still = runs; same = refl; kept = λ h. refl; quiet = refl }

-- ---- a node that heard messages

module _ {T : Type 0} (tapes : Tape T) where
  -- It is the node that it was, of as many.
  received_stays : (messages : List Message) (lost : Bool) (node after : Node T) → HasReceived tapes messages lost node after → (after.id ≡ node.id) × (after.n ≡ node.n)
  unfolding HasReceived
  received_stays [] lost node after received = (ap (λ (x : Node T). x.id) received.1, ap (λ (x : Node T). x.n) received.1)
  received_stays (m ∷ rest) lost node after (inl losing) =
      let stays = stays_itself tapes node after (table.Deliver (message.view m)) losing.1.outputs true losing.1.takes in
      (stays.0, stays.1)
  received_stays (m ∷ rest) lost node after (inr (middle, taken, received)) =
      let stays = stays_itself tapes node middle (table.Deliver (message.view m)) taken.outputs false taken.takes in
      let on = received_stays rest lost middle after received in
      (on.0 ∙ stays.0, on.1 ∙ stays.1)

  -- So it keeps its entry.
  pub entry_received : (messages : List Message) (lost : Bool) (node after : Node T) → HasReceived tapes messages lost node after → IsSturdy tapes node after → KeepsEntry tapes (Running node) (Running after)
  entry_received messages lost node after received sturdy =
      let stays = received_stays messages lost node after received in
      record { member = λ n i is. (stays.0 ∙ is.0, stays.1 ∙ is.1, λ h. sturdy (is.2 h).1 (is.2 h).0); kept = (after, refl) }

-- ---- the first of some messages

module _ {T : Type 0} (tapes : Tape T) where
  pub received_none : (messages : List Message) (node : Node T) → length messages < 1 → HasReceived tapes messages false node node
  unfolding HasReceived
  received_none [] node few = (refl, refl)
  received_none (m ∷ rest) node few = absurd (omega (arith, few))

  pub received_lost : (messages : List Message) (first : Message) (node after : Node T) → 1 ≤ length messages → first ≡ slice_index_or messages 0 first → IsDeliveryTaken tapes true first node after → HasReceived tapes messages true node after
  unfolding HasReceived
  received_lost [] first node after some is taken = absurd (omega (arith, some))
  received_lost (m ∷ rest) first node after some is taken = inl (refl, subst (λ x. IsDeliveryTaken tapes true x node after) is taken)

  pub received_more : (messages : List Message) (first : Message) (lost : Bool) (node middle after : Node T) → 1 ≤ length messages → first ≡ slice_index_or messages 0 first → IsDeliveryTaken tapes false first node middle → HasReceived tapes (drop 1 messages) lost middle after →
      HasReceived tapes messages lost node after
  unfolding HasReceived
  received_more [] first lost node middle after some is taken received = absurd (omega (arith, some))
  received_more (m ∷ rest) first lost node middle after some is taken received = inr (middle, subst (λ x. IsDeliveryTaken tapes false x node middle) is taken, received)

pub range_rest : (messages : List Message) → take (length messages - 1) (drop 1 messages) ≡ drop 1 messages
range_rest [] = refl
range_rest (m ∷ rest) = take_all (length (m ∷ rest) - 1) rest (omega arith)
