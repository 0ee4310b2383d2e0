-- What holds in runs in which no node loses what it stored, beyond the facts of all runs: a round
-- is never used again, so promises are requested at a ballot from one sequence on; a promise binds
-- its node for ever; and no vote below it follows.
use Rattle.std.proofs.Common.{◌≡◌, ℕ, ◌<◌, ◌≤◌, Bool, false, List, [], ◌∷◌, ◌++◌, slice_get, slice_set, Option, Some, None, refl, sym, subst, ◌∙◌, inl, inr, arith, append_assoc, append-nil}
use Rattle.std.specs.Prelude.{⊤}
use Rattle.std.proofs.lemmas.Bool.{cases_eq}
use Rattle.std.proofs.lemmas.Option.{same_Some}
use Rattle.wf_ballot.specs.Ballot.{Ballot, below}
use Rattle.wf_model.specs.Message.{Vote, Message, Prepare, Promise, Accept, Accepted, Nack, Chosen, Ask}
use Rattle.wf_model.specs.DurableState.{DurableState, Record}
use Rattle.wf_model.specs.Fits.{NotBelow}
use Rattle.wf_model.specs.VolatileState.{Proposing, Idle, Running, Won, Overtaken, VolatileState, at_start}
use Rattle.wf_model.specs.Table.{store}
use Rattle.wf_model.specs.World.{Node, World, Event, Act, Stop, Restart, Torn, Kept, Before, After, Turn, stored_after, kept_part, with_node, after_turn, after_torn, stop_running, after_stop, restart_stopped, after_restart, turn, happens, steps, start, after}
use Rattle.wf_model.specs.Chosen.{IsIn}
use Rattle.wf_safety.specs.Theorems.{ballots_of, NoVoteBelow, VotesInOrder}
use Rattle.wf_safety.proofs.Members.{member-parts, member-split}
use Rattle.wf_safety.proofs.Facts.{MayPromise, MayVote, IsMeet, MaySend, Sends, IsRunningAt}
use Rattle.wf_safety.proofs.RecordFacts.{accepted_order, promise_kept}
use Rattle.wf_safety.proofs.Worlds.{get-set_same, get-set_other, WorldFacts, TurnFacts, SomeTurnFacts, turn_facts, happens_facts, start_facts}

-- what node i still knows of what it sent
pub record NodeMemory {V : Type 0} (i : ℕ) (stored : DurableState V) (sent : List (Message V)) : Type 0 where
  -- each ballot of node i in a message is of a round that it tried
  pub tried : (message : Message V) (b : Ballot) → IsIn message sent → IsIn b (ballots_of message) → b.node ≡ i → b.round ≤ stored.tried
  -- its promise isn't below any ballot that it promised, or at which it voted
  pub promised : (s : ℕ) (b : Ballot) (votes : List (Option (Vote V))) → IsIn (Promise i s b votes) sent → NotBelow stored.promise b
  pub accepted : (s : ℕ) (b : Ballot) → IsIn (Accepted i s b) sent → NotBelow stored.promise b

pub record Memory {V : Type 0} (w : World V) : Type 0 where
  pub one_base : (s t : ℕ) (b : Ballot) → IsIn (Prepare s b) w.sent → IsIn (Prepare t b) w.sent → s ≡ t
  pub in_order : VotesInOrder w.sent
  pub nodes : (i : ℕ) (node : Node V) → slice_get w.nodes i ≡ Some node → NodeMemory i node.stored w.sent

-- ---- the order of votes

-- the last message is no vote below a promise among those before it
abbrev NoneBelowLast : {V : Type 0} → Message V → Message V → Type 0
NoneBelowLast (Promise i s b votes) last = (t : ℕ) (c : Ballot) → Accepted i t c ≡ last → below c b ≡ false
NoneBelowLast message last = ⊤

one_later : {V : Type 0} (message : Message V) (later : List (Message V)) (last : Message V) →
    NoVoteBelow message later → NoneBelowLast message last → NoVoteBelow message (later ++ last ∷ [])
one_later (Prepare s b) later last h k = tt
one_later (Promise i s b votes) later last h k = λ t c is_in. elim (member-split (Accepted i t c) later last is_in) [ inl old ↦ h t c old | inr new ↦ k t c new ]
one_later (Accept s b d) later last h k = tt
one_later (Accepted i s b) later last h k = tt
one_later (Nack i s b q) later last h k = tt
one_later (Chosen s d) later last h k = tt
one_later (Ask s) later last h k = tt

-- Each message keeps that no vote below it follows, since the last one is none.
VotesInOrder-last : {V : Type 0} (sent : List (Message V)) (last : Message V) → VotesInOrder sent →
    ((message : Message V) → IsIn message sent → NoneBelowLast message last) → VotesInOrder (sent ++ last ∷ [])
VotesInOrder-last [] (Prepare s b) h k = (tt, tt)
VotesInOrder-last [] (Promise i s b votes) h k = ((λ t c is_in. absurd is_in), tt)
VotesInOrder-last [] (Accept s b d) h k = (tt, tt)
VotesInOrder-last [] (Accepted i s b) h k = (tt, tt)
VotesInOrder-last [] (Nack i s b q) h k = (tt, tt)
VotesInOrder-last [] (Chosen s d) h k = (tt, tt)
VotesInOrder-last [] (Ask s) h k = (tt, tt)
VotesInOrder-last (message ∷ later) last h k =
    (one_later message later last h.0 (k message (inl refl)), VotesInOrder-last later last h.1 (λ m is_in. k m (inr is_in)))

-- Of the messages before it only a Promise forbids a vote, and a vote is sent only at a ballot that
-- its node's promise isn't above.
none_below : {V : Type 0} (n i : ℕ) (stored : DurableState V) (sent : List (Message V)) (last : Message V) → NodeMemory i stored sent → IsMeet n i stored sent last →
    (message : Message V) → IsIn message sent → NoneBelowLast message last
none_below n i stored sent last memory meet (Prepare s b) is_in = tt
none_below n i stored sent last memory meet (Promise j s b votes) is_in = λ t c e.
    let may : MayVote i stored sent j t c = subst (IsMeet n i stored sent) (sym e) meet in
    accepted_order stored.promise c b may.kept (memory.promised s b votes (subst (λ k. IsIn (Promise k s b votes) sent) may.own is_in))
none_below n i stored sent last memory meet (Accept s b d) is_in = tt
none_below n i stored sent last memory meet (Accepted j s b) is_in = tt
none_below n i stored sent last memory meet (Nack j s b q) is_in = tt
none_below n i stored sent last memory meet (Chosen s d) is_in = tt
none_below n i stored sent last memory meet (Ask s) is_in = tt

-- ---- one message is sent

module _ {V : Type 0} (n i : ℕ) (stored : DurableState V) (sent : List (Message V)) (last : Message V) (may : MaySend n i stored sent last) where
  -- what the last message meets, where it is known to be this one
  meets : (message : Message V) → message ≡ last → IsMeet n i stored sent message
  meets message e = subst (IsMeet n i stored sent) (sym e) may.meet

  -- the node that sends has what the last message must meet
  send_own : NodeMemory i stored sent → NodeMemory i stored (sent ++ last ∷ [])
  send_own memory = record {
    tried = λ message b is_in in_message of_i. elim (member-split message sent last is_in) [
      | inl old ↦ memory.tried message b old in_message of_i
      | inr e ↦ elim (may.known b (subst (λ m. IsIn b (ballots_of m)) e in_message)) [
        | inl own ↦ own.1
        | inr stands ↦ memory.tried stands.message b stands.was_sent stands.is_in of_i
      ]
    ];
    promised = λ s b votes is_in. elim (member-split (Promise i s b votes) sent last is_in) [
      | inl old ↦ memory.promised s b votes old
      | inr e ↦ (let m : MayPromise i stored sent i s b votes = meets (Promise i s b votes) e in m.promise)
    ];
    accepted = λ s b is_in. elim (member-split (Accepted i s b) sent last is_in) [
      | inl old ↦ memory.accepted s b old
      | inr e ↦ (let m : MayVote i stored sent i s b = meets (Accepted i s b) e in m.promise)
    ];
  }

  -- the last message is no other node's
  send_other : (j : ℕ) (other : DurableState V) → (j ≡ i → ⊥) → NodeMemory j other sent → NodeMemory j other (sent ++ last ∷ [])
  send_other j other differs memory = record {
    tried = λ message b is_in in_message of_j. elim (member-split message sent last is_in) [
      | inl old ↦ memory.tried message b old in_message of_j
      | inr e ↦ elim (may.known b (subst (λ m. IsIn b (ballots_of m)) e in_message)) [
        | inl own ↦ (let same : j ≡ i = cc (own.0, of_j) in absurd (differs same))
        | inr stands ↦ memory.tried stands.message b stands.was_sent stands.is_in of_j
      ]
    ];
    promised = λ s b votes is_in. elim (member-split (Promise j s b votes) sent last is_in) [
      | inl old ↦ memory.promised s b votes old
      | inr e ↦ (let m : MayPromise i stored sent j s b votes = meets (Promise j s b votes) e in absurd (differs m.own))
    ];
    accepted = λ s b is_in. elim (member-split (Accepted j s b) sent last is_in) [
      | inl old ↦ memory.accepted s b old
      | inr e ↦ (let m : MayVote i stored sent j s b = meets (Accepted j s b) e in absurd (differs m.own))
    ];
  }

-- ---- one message after the other

module _ {V : Type 0} (n i : ℕ) (stored : DurableState V) where
  emit_own : (sent new : List (Message V)) → Sends n i stored sent new → NodeMemory i stored sent → NodeMemory i stored (sent ++ new)
  emit_own sent [] sends memory = subst (NodeMemory i stored) (sym (append-nil sent)) memory
  emit_own sent (m ∷ rest) sends memory =
      subst (NodeMemory i stored) (append_assoc sent (m ∷ []) rest) (emit_own (sent ++ m ∷ []) rest sends.1 (send_own n i stored sent m sends.0 memory))

  emit_other : (sent new : List (Message V)) (j : ℕ) (other : DurableState V) → (j ≡ i → ⊥) → Sends n i stored sent new → NodeMemory j other sent → NodeMemory j other (sent ++ new)
  emit_other sent [] j other differs sends memory = subst (NodeMemory j other) (sym (append-nil sent)) memory
  emit_other sent (m ∷ rest) j other differs sends memory =
      subst (NodeMemory j other) (append_assoc sent (m ∷ []) rest)
      (emit_other (sent ++ m ∷ []) rest j other differs sends.1 (send_other n i stored sent m sends.0 j other differs memory))

  emit_order : (sent new : List (Message V)) → Sends n i stored sent new → NodeMemory i stored sent → VotesInOrder sent → VotesInOrder (sent ++ new)
  emit_order sent [] sends memory order = subst VotesInOrder (sym (append-nil sent)) order
  emit_order sent (m ∷ rest) sends memory order =
      subst VotesInOrder (append_assoc sent (m ∷ []) rest)
      (emit_order (sent ++ m ∷ []) rest sends.1 (send_own n i stored sent m sends.0 memory)
      (VotesInOrder-last sent m order (none_below n i stored sent m memory sends.0.meet)))

-- ---- a record is stored

module _ {V : Type 0} (i : ℕ) (before : DurableState V) (sent : List (Message V)) where
  store_keeps : (entry : Option (Record V)) (c : Ballot) → NotBelow before.promise c → NotBelow (store before entry).promise c
  unfolding store
  store_keeps None c h = h
  store_keeps (Some r) c h = promise_kept before r c h

  stored_memory : (entry : Option (Record V)) → before.tried ≤ (store before entry).tried → NodeMemory i before sent → NodeMemory i (store before entry) sent
  stored_memory entry rises memory = record {
    tried = λ message b is_in in_message of_i. let old : b.round ≤ before.tried = memory.tried message b is_in in_message of_i in omega arith;
    promised = λ s b votes is_in. store_keeps entry b (memory.promised s b votes is_in);
    accepted = λ s b is_in. store_keeps entry b (memory.accepted s b is_in);
  }

-- ---- a step

-- a node runs one proposal, at one sequence
runs_at_one : {V : Type 0} (proposing : Proposing V) (s t : ℕ) (b : Ballot) → IsRunningAt proposing s b → IsRunningAt proposing t b → s ≡ t
runs_at_one Idle s t b h k = absurd h
runs_at_one (Running p) s t b h k = sym h.0 ∙ k.0
runs_at_one (Won u) s t b h k = absurd h
runs_at_one (Overtaken u) s t b h k = absurd h

module _ {V : Type 0} (n : ℕ) (w : World V) (i : ℕ) (memory : Memory w) where
  -- of the nodes, if one is changed and no message is sent
  set_memory : (old new : Node V) → slice_get w.nodes i ≡ Some old → NodeMemory i new.stored w.sent → (j : ℕ) (node : Node V) →
      slice_get (slice_set w.nodes i new) j ≡ Some node → NodeMemory j node.stored w.sent
  set_memory old new is_there of_new j node e = elim (cases_eq j i) [
    | inl same ↦ (let e' : slice_get (slice_set w.nodes i new) i ≡ Some node = subst (λ k. slice_get (slice_set w.nodes i new) k ≡ Some node) same e in
        subst (λ (x : Node V). NodeMemory j x.stored w.sent) (same_Some new node (sym (get-set_same w.nodes i new old is_there) ∙ e'))
        (subst (λ k. NodeMemory k new.stored w.sent) (sym same) of_new))
    | inr differs ↦ memory.nodes j node (sym (get-set_other w.nodes i j new differs) ∙ e)
  ]

  with_node_memory : (old : Node V) (stored : DurableState V) (volatile : Option (VolatileState V)) → slice_get w.nodes i ≡ Some old → NodeMemory i stored w.sent →
      Memory (with_node w i stored volatile)
  unfolding with_node
  with_node_memory old stored volatile is_there of_stored = record {
    one_base = memory.one_base;
    in_order = memory.in_order;
    nodes = set_memory old (record { stored = stored; volatile = volatile }) is_there of_stored;
  }

  module _ (t : Turn V) (known : TurnFacts n w i t) where
    of_before : NodeMemory i t.stored w.sent
    of_before = memory.nodes i (record { stored = t.stored; volatile = Some known.volatile }) known.is_there

    of_after : NodeMemory i (store t.stored t.transition.entry) w.sent
    of_after = stored_memory i t.stored w.sent t.transition.entry known.step.rounds of_before

    -- a Prepare is of a round that its node hadn't tried, so none was sent at its ballot
    never_before : (s u : ℕ) (b : Ballot) → IsIn (Prepare s b) w.sent → IsIn (Prepare u b) t.transition.messages → ⊥
    never_before s u b old new =
        let higher : t.stored.tried < b.round = known.step.prepares u b new in
        let asks : (b.node ≡ i) × IsRunningAt t.transition.volatile.proposing u b = known.step.asks (Prepare u b) new in
        let tried : b.round ≤ t.stored.tried = of_before.tried (Prepare s b) b old (inl refl) asks.0 in
        absurd (omega arith)

    still_one_base : (s u : ℕ) (b : Ballot) → IsIn (Prepare s b) (w.sent ++ t.transition.messages) → IsIn (Prepare u b) (w.sent ++ t.transition.messages) → s ≡ u
    still_one_base s u b first second =
        elim (member-parts (Prepare s b) w.sent t.transition.messages first) [
          | inl old ↦ elim (member-parts (Prepare u b) w.sent t.transition.messages second) [
            | inl older ↦ memory.one_base s u b old older
            | inr new ↦ absurd (never_before s u b old new)
          ]
          | inr new ↦ elim (member-parts (Prepare u b) w.sent t.transition.messages second) [
            | inl older ↦ absurd (never_before u s b older new)
            | inr newer ↦ (let one : (b.node ≡ i) × IsRunningAt t.transition.volatile.proposing s b = known.step.asks (Prepare s b) new in
                let other : (b.node ≡ i) × IsRunningAt t.transition.volatile.proposing u b = known.step.asks (Prepare u b) newer in
                runs_at_one t.transition.volatile.proposing s u b one.1 other.1)
          ]
        ]

    after_nodes : (j : ℕ) (node : Node V) →
        slice_get (slice_set w.nodes i (record { stored = store t.stored t.transition.entry; volatile = Some t.transition.volatile })) j ≡ Some node →
        NodeMemory j node.stored (w.sent ++ t.transition.messages)
    after_nodes j node e =
        let new : Node V = record { stored = store t.stored t.transition.entry; volatile = Some t.transition.volatile } in
        let old : Node V = record { stored = t.stored; volatile = Some known.volatile } in
        elim (cases_eq j i) [
          | inl same ↦ (let e' : slice_get (slice_set w.nodes i new) i ≡ Some node = subst (λ k. slice_get (slice_set w.nodes i new) k ≡ Some node) same e in
              subst (λ (x : Node V). NodeMemory j x.stored (w.sent ++ t.transition.messages)) (same_Some new node (sym (get-set_same w.nodes i new old known.is_there) ∙ e'))
              (subst (λ k. NodeMemory k new.stored (w.sent ++ t.transition.messages)) (sym same)
              (emit_own n i (store t.stored t.transition.entry) w.sent t.transition.messages known.step.sends of_after)))
          | inr differs ↦ emit_other n i (store t.stored t.transition.entry) w.sent t.transition.messages j node.stored differs known.step.sends
              (memory.nodes j node (sym (get-set_other w.nodes i j new differs) ∙ e))
        ]

  after_turn_memory : (t : Option (Turn V)) → SomeTurnFacts n w i t → Memory (after_turn w i t)
  unfolding after_turn with_node stored_after
  after_turn_memory None known = memory
  after_turn_memory (Some t) known = record {
    one_base = still_one_base t known;
    in_order = emit_order n i (store t.stored t.transition.entry) w.sent t.transition.messages known.step.sends (of_after t known) memory.in_order;
    nodes = after_nodes t known;
  }

  kept_memory : (kept : Kept) (t : Turn V) → TurnFacts n w i t → NodeMemory i (kept_part kept t) w.sent
  unfolding kept_part stored_after
  kept_memory Before t known = of_before t known
  kept_memory After t known = of_after t known

  after_torn_memory : (kept : Kept) (t : Option (Turn V)) → SomeTurnFacts n w i t → Memory (after_torn w i kept t)
  unfolding after_torn
  after_torn_memory kept None known = memory
  after_torn_memory kept (Some t) known =
      with_node_memory (record { stored = t.stored; volatile = Some known.volatile }) (kept_part kept t) None known.is_there (kept_memory kept t known)

  stop_memory : (stored : DurableState V) (volatile : Option (VolatileState V)) → slice_get w.nodes i ≡ Some (record { stored = stored; volatile = volatile }) →
      Memory (stop_running w i stored volatile)
  unfolding stop_running
  stop_memory stored None is_there = memory
  stop_memory stored (Some volatile) is_there =
      let old : Node V = record { stored = stored; volatile = Some volatile } in
      with_node_memory old stored None is_there (memory.nodes i old is_there)

  after_stop_memory : (node : Option (Node V)) → slice_get w.nodes i ≡ node → Memory (after_stop w i node)
  unfolding after_stop
  after_stop_memory None is_there = memory
  after_stop_memory (Some node) is_there = stop_memory node.stored node.volatile is_there

  restart_memory : (stored : DurableState V) (volatile : Option (VolatileState V)) → slice_get w.nodes i ≡ Some (record { stored = stored; volatile = volatile }) →
      Memory (restart_stopped w i stored volatile)
  unfolding restart_stopped
  restart_memory stored None is_there =
      let old : Node V = record { stored = stored; volatile = None } in
      with_node_memory old stored (Some at_start) is_there (memory.nodes i old is_there)
  restart_memory stored (Some volatile) is_there = memory

  after_restart_memory : (node : Option (Node V)) → slice_get w.nodes i ≡ node → Memory (after_restart w i node)
  unfolding after_restart
  after_restart_memory None is_there = memory
  after_restart_memory (Some node) is_there = restart_memory node.stored node.volatile is_there

-- ---- events and runs

-- no message was sent
start_memory : {V : Type 0} (n : ℕ) → Memory {V = V} (start n)
unfolding start
start_memory n = record {
  one_base = λ s t b h k. absurd h;
  in_order = tt;
  nodes = λ i node e. record {
    tried = λ message b h k of_i. absurd h;
    promised = λ s b votes h. absurd h;
    accepted = λ s b h. absurd h;
  };
}

module _ {V : Type 0} (same : V → V → Bool) (n : ℕ) where
  happens_memory : (w : World V) (event : Event V) → WorldFacts n w → Memory w → Memory (happens same w event)
  unfolding happens
  happens_memory w (Act i action) facts memory = after_turn_memory n w i memory (turn same w i action) (turn_facts same n w facts i action)
  happens_memory w (Stop i) facts memory = after_stop_memory n w i memory (slice_get w.nodes i) refl
  happens_memory w (Restart i) facts memory = after_restart_memory n w i memory (slice_get w.nodes i) refl
  happens_memory w (Torn i action kept) facts memory = after_torn_memory n w i memory kept (turn same w i action) (turn_facts same n w facts i action)

  steps_memory : (w : World V) (events : List (Event V)) → WorldFacts n w → Memory w → Memory (steps same w events)
  unfolding steps
  steps_memory w [] facts memory = memory
  steps_memory w (event ∷ rest) facts memory = steps_memory (happens same w event) rest (happens_facts same n w event facts) (happens_memory w event facts memory)

  pub after_memory : (events : List (Event V)) → Memory (after same n events)
  unfolding after
  after_memory events = steps_memory (start n) events (start_facts n) (start_memory n)
