-- The four theorems, from the facts of every world that is reached.
use Rattle.std.proofs.Common.{◌≡◌, ℕ, zero, suc, ◌<◌, Bool, List, [], ◌∷◌, ◌++◌, length, drop, slice_get, slice_set, Option, Some, None, refl, sym, subst, ◌∙◌, arith}
use Rattle.std.proofs.lemmas.Option.{none-some, same_Some}
use Rattle.wf_ballot.specs.Ballot.{Ballot}
use Rattle.wf_model.specs.Message.{Message, Prepare, Promise, Accept, Accepted, Nack, Chosen, Ask}
use Rattle.wf_model.specs.DurableState.{DurableState, definition_at}
use Rattle.wf_model.specs.Fits.{NotBelow}
use Rattle.wf_model.specs.VolatileState.{Proposing, Idle, Running, Won, Overtaken, VolatileState}
use Rattle.wf_model.specs.Table.{store}
use Rattle.wf_model.specs.World.{Node, World, Event, Act, Stop, Restart, Torn, Kept, Turn, stored_after, with_node, after_turn, after_torn, stop_running, after_stop, restart_stopped, after_restart, turn, happens, after}
use Rattle.wf_model.specs.Chosen.{IsIn, IsChosen, history_of, history, definition}
use Rattle.wf_safety.specs.Theorems.{ballots_of, IsTried, Proposes, node_of, AsksForItself, OwnBallotsIn, OwnBallots, IsBound, KeptPromisesIn, KeptPromises, PromisedMajorityIn, PromisedMajority, AgreementIn, Agreement}
use Rattle.wf_safety.proofs.Facts.{MessageFacts, IsRunningAt, IsOwnAsk}
use Rattle.wf_safety.proofs.Worlds.{get-set_same, MemberFacts, WorldFacts, SomeTurnFacts, turn_facts, after_facts}
use Rattle.wf_safety.proofs.Lossless.{NodeMemory, Memory, after_memory}
use Rattle.wf_safety.proofs.Core.{carries, one_chosen}
use Rattle.wf_safety.proofs.Growth.{history_grows}

-- ---- lists

-- an index within a list has its element
found : {A : Type 0} (xs : List A) (i : ℕ) → i < length xs → (x : A) × (slice_get xs i ≡ Some x)
found [] i h = absurd (omega arith)
found (x ∷ xs) zero h = (x, refl)
found (x ∷ xs) (suc i) h = found xs i (omega arith)

drop-all : {A : Type 0} (xs ys : List A) → drop (length xs) (xs ++ ys) ≡ ys
drop-all [] ys = refl
drop-all (x ∷ xs) ys = drop-all xs ys

drop-itself : {A : Type 0} (xs : List A) → drop (length xs) xs ≡ []
drop-itself [] = refl
drop-itself (x ∷ xs) = drop-itself xs

-- ---- ballots belong to their nodes

module _ {V : Type 0} (n : ℕ) (w : World V) (facts : WorldFacts n w) (memory : Memory w) where
  tried_facts : (b : Ballot) (message : Message V) → IsIn message w.sent → IsIn b (ballots_of message) → IsTried w b
  tried_facts b message is_sent is_in =
      let is_node : b.node < length w.nodes = subst (λ k. b.node < k) (sym facts.size) (facts.messages.nodes message b is_sent is_in) in
      let (node, is_there) = found w.nodes b.node is_node in
      record {
        stored = node.stored;
        node = record { volatile = node.volatile; is_there = is_there };
        tried = (memory.nodes b.node node is_there).tried message b is_sent is_in refl;
      }

  own_ballots_in : OwnBallotsIn w
  own_ballots_in = record {
    tried = λ message b. tried_facts b message;
    one_base = memory.one_base;
    requested = facts.messages.requested;
    one_accept = facts.messages.one_accept;
  }

-- a request of a node whose proposal runs is that proposal's
proposes_by : {V : Type 0} (w : World V) (i s : ℕ) (b : Ballot) (stored : DurableState V) (volatile : VolatileState V) (proposing : Proposing V) →
    slice_get w.nodes i ≡ Some (record { stored = stored; volatile = Some volatile }) → volatile.proposing ≡ proposing → IsRunningAt proposing s b → Proposes w i s b
proposes_by w i s b stored volatile Idle is_there is_it running = absurd running
proposes_by w i s b stored volatile (Running p) is_there is_it running =
    record { stored = stored; volatile = volatile; proposal = p; is_there = is_there; is_running = is_it; at_sequence = running.0; at_ballot = running.1 }
proposes_by w i s b stored volatile (Won t) is_there is_it running = absurd running
proposes_by w i s b stored volatile (Overtaken t) is_there is_it running = absurd running

proposes : {V : Type 0} (w : World V) (i s : ℕ) (b : Ballot) (stored : DurableState V) (volatile : VolatileState V) → slice_get w.nodes i ≡ Some (record { stored = stored; volatile = Some volatile }) →
    IsRunningAt volatile.proposing s b → Proposes w i s b
proposes w i s b stored volatile is_there running = proposes_by w i s b stored volatile volatile.proposing is_there refl running

asks_itself : {V : Type 0} (w : World V) (i : ℕ) (stored : DurableState V) (volatile : VolatileState V) (m : Message V) →
    slice_get w.nodes i ≡ Some (record { stored = stored; volatile = Some volatile }) → IsOwnAsk i volatile m → AsksForItself w i m
asks_itself w i stored volatile (Prepare s b) is_there own = (own.0, proposes w i s b stored volatile is_there own.1)
asks_itself w i stored volatile (Promise sender s b votes) is_there own = tt
asks_itself w i stored volatile (Accept s b d) is_there own = (own.0, proposes w i s b stored volatile is_there own.1)
asks_itself w i stored volatile (Accepted sender s b) is_there own = tt
asks_itself w i stored volatile (Nack sender s b q) is_there own = tt
asks_itself w i stored volatile (Chosen s d) is_there own = tt
asks_itself w i stored volatile (Ask s) is_there own = tt

module _ {V : Type 0} (w : World V) (i : ℕ) where
  -- nothing is sent
  silent : (w' : World V) (m : Message V) → w'.sent ≡ w.sent → IsIn m (drop (length w.sent) w'.sent) → AsksForItself w' i m
  silent w' m e is_new = absurd (subst (λ (x : List (Message V)). IsIn m x) (drop-itself w.sent) (subst (λ (x : List (Message V)). IsIn m (drop (length w.sent) x)) e is_new))

  asked_by_turn : (n : ℕ) (t : Option (Turn V)) → SomeTurnFacts n w i t → (m : Message V) → IsIn m (drop (length w.sent) (after_turn w i t).sent) → AsksForItself (after_turn w i t) i m
  unfolding after_turn with_node stored_after
  asked_by_turn n None known m is_new = silent w m refl is_new
  asked_by_turn n (Some t) known m is_new =
      let new : Node V = record { stored = store t.stored t.transition.entry; volatile = Some t.transition.volatile } in
      let is_sent : IsIn m t.transition.messages = subst (λ (x : List (Message V)). IsIn m x) (drop-all w.sent t.transition.messages) is_new in
      asks_itself (record { nodes = slice_set w.nodes i new; sent = w.sent ++ t.transition.messages }) i (store t.stored t.transition.entry) t.transition.volatile m
      (get-set_same w.nodes i new (record { stored = t.stored; volatile = Some known.volatile }) known.is_there) (known.step.asks m is_sent)

  -- a crash within a step, a stop and a restart send nothing
  pub torn_sends : (kept : Kept) (t : Option (Turn V)) → (after_torn w i kept t).sent ≡ w.sent
  unfolding after_torn with_node
  torn_sends kept None = refl
  torn_sends kept (Some t) = refl

  stop_sends : (stored : DurableState V) (volatile : Option (VolatileState V)) → (stop_running w i stored volatile).sent ≡ w.sent
  unfolding stop_running with_node
  stop_sends stored None = refl
  stop_sends stored (Some volatile) = refl

  pub after_stop_sends : (node : Option (Node V)) → (after_stop w i node).sent ≡ w.sent
  unfolding after_stop
  after_stop_sends None = refl
  after_stop_sends (Some node) = stop_sends node.stored node.volatile

  restart_sends : (stored : DurableState V) (volatile : Option (VolatileState V)) → (restart_stopped w i stored volatile).sent ≡ w.sent
  unfolding restart_stopped with_node
  restart_sends stored None = refl
  restart_sends stored (Some volatile) = refl

  pub after_restart_sends : (node : Option (Node V)) → (after_restart w i node).sent ≡ w.sent
  unfolding after_restart
  after_restart_sends None = refl
  after_restart_sends (Some node) = restart_sends node.stored node.volatile

module _ {V : Type 0} (same : V → V → Bool) (n : ℕ) (w : World V) (facts : WorldFacts n w) where
  asked_by : (event : Event V) (m : Message V) → IsIn m (drop (length w.sent) (happens same w event).sent) → AsksForItself (happens same w event) (node_of event) m
  unfolding happens
  asked_by (Act i action) m is_new = asked_by_turn w i n (turn same w i action) (turn_facts same n w facts i action) m is_new
  asked_by (Stop i) m is_new = silent w i (after_stop w i (slice_get w.nodes i)) m (after_stop_sends w i (slice_get w.nodes i)) is_new
  asked_by (Restart i) m is_new = silent w i (after_restart w i (slice_get w.nodes i)) m (after_restart_sends w i (slice_get w.nodes i)) is_new
  asked_by (Torn i action kept) m is_new = silent w i (after_torn w i kept (turn same w i action)) m (torn_sends w i kept (turn same w i action)) is_new

pub own_ballots : (V : Type 0) → OwnBallots V
own_ballots V = record {
  facts = λ same n events. own_ballots_in n (after same n events) (after_facts same n events) (after_memory same n events);
  asked = λ same n events event message. asked_by same n (after same n events) (after_facts same n events) event message;
}

-- ---- promises are kept

module _ {V : Type 0} (n : ℕ) (w : World V) (facts : WorldFacts n w) (memory : Memory w) where
  -- a node of the farm is bound
  bound : (i : ℕ) (b : Ballot) → i < n → ((stored : DurableState V) → NodeMemory i stored w.sent → NotBelow stored.promise b) → IsBound w i b
  bound i b is_node kept =
      let within : i < length w.nodes = subst (λ k. i < k) (sym facts.size) is_node in
      let (node, is_there) = found w.nodes i within in
      record {
        stored = node.stored;
        node = record { volatile = node.volatile; is_there = is_there };
        bound = kept node.stored (memory.nodes i node is_there);
      }

  -- Each field is a fact of the world: of its messages, or of the node that sent or stored.
  kept_promises_in : KeptPromisesIn w
  kept_promises_in = record {
    promised = λ i s b votes is_sent. bound i b (facts.messages.senders i s b votes is_sent) (λ stored known. known.promised s b votes is_sent);
    accepted = λ i s b is_sent. bound i b (facts.messages.voters i s b is_sent) (λ stored known. known.accepted s b is_sent);
    in_order = memory.in_order;
    stored_vote = λ i s stored vote node e.
        let member : MemberFacts n i w.sent (record { stored = stored; volatile = node.volatile }) =
        facts.nodes i (record { stored = stored; volatile = node.volatile }) node.is_there in
        member.stored.vote_asked s vote e;
    reported_vote = facts.messages.reported_asked;
  }

pub kept_promises : (V : Type 0) → KeptPromises V
kept_promises V = λ same n events. kept_promises_in n (after same n events) (after_facts same n events) (after_memory same n events)

-- ---- a majority promised

promised_majority_in : {V : Type 0} (n : ℕ) (sent : List (Message V)) → MessageFacts n sent → PromisedMajorityIn n sent
promised_majority_in n sent facts = record {
  backed = facts.backed;
  carries = λ s b c d e chosen above is_sent. carries n sent facts s b d chosen c e above is_sent;
}

pub promised_majority : (V : Type 0) → PromisedMajority V
promised_majority V = λ same n events. promised_majority_in n (after same n events).sent (messages_of n (after same n events) (after_facts same n events))
  where
    messages_of : (n : ℕ) (w : World V) → WorldFacts n w → MessageFacts n w.sent
    messages_of n w facts = facts.messages

-- ---- agreement

module _ {V : Type 0} (n : ℕ) (w : World V) (facts : WorldFacts n w) where
  nothing_published : (s : ℕ) (d : V) → definition_at {V = V} [] s ≡ Some d → ⊥
  unfolding definition_at
  nothing_published zero d e = none-some d e
  nothing_published (suc k) d e = none-some d e

  entry_chosen : (i s : ℕ) (d : V) (node : Option (Node V)) → slice_get w.nodes i ≡ node → definition_at (history_of node) s ≡ Some d → IsChosen n w.sent s d
  unfolding history_of
  entry_chosen i s d None is_there e = absurd (nothing_published s d e)
  entry_chosen i s d (Some node) is_there e =
      let member : MemberFacts n i w.sent node = facts.nodes i node is_there in
      member.stored.chosen s d e

  published_chosen : (i s : ℕ) (d : V) → definition_at (history w i) s ≡ Some d → IsChosen n w.sent s d
  unfolding history
  published_chosen i s d e = entry_chosen i s d (slice_get w.nodes i) refl e

  definition_chosen : (empty : V) (i k : ℕ) (d : V) → definition empty w i (suc k) ≡ Some d → IsChosen n w.sent (suc k) d
  unfolding definition definition_at
  definition_chosen empty i k d e = published_chosen i (suc k) d e

  same_definition : (empty : V) (i j s : ℕ) (c d : V) → definition empty w i s ≡ Some c → definition empty w j s ≡ Some d → c ≡ d
  unfolding definition
  same_definition empty i j zero c d e h = sym (same_Some empty c e) ∙ same_Some empty d h
  same_definition empty i j (suc k) c d e h =
      one_chosen n w.sent facts.messages (suc k) c d (definition_chosen empty i k c e) (definition_chosen empty j k d h)

  pub agreement_in : AgreementIn n w
  agreement_in = record {
    one_chosen = one_chosen n w.sent facts.messages;
    published_is_chosen = published_chosen;
    reported_is_chosen = facts.messages.chosen;
    same_definition = same_definition;
  }

pub agreement : (V : Type 0) → Agreement V
agreement V = record {
  facts = λ same n events. agreement_in n (after same n events) (after_facts same n events);
  grows = λ same n i events more. history_grows same n i events more;
}
