-- The guard covers: what half of all nodes had stored since a node's last message bounds all that
-- it may have said. And agreement under the guard.
use Rattle.std.proofs.Common.{◌≡◌, ◌≢◌, ℕ, zero, suc, ◌+◌, ◌*◌, ◌<◌, ◌≤◌, Bool, List, [], ◌∷◌, ◌++◌, slice_get, Option, Some, None, refl, sym, subst, ◌∙◌, inl, inr, arith}
use Rattle.std.proofs.lemmas.Bool.{cases_lt}
use Rattle.std.proofs.lemmas.Option.{none-some}
use Rattle.wf_ballot.specs.Ballot.{Ballot}
use Rattle.wf_ballot.specs.Majority.{count_nodes}
use Rattle.wf_ballot.specs.QuorumTheorems.{is_majority_of-true, sets_meet, majorities_meet}
use Rattle.wf_ballot.specs.Sequence.{last_sequence}
use Rattle.wf_model.specs.Message.{Message, Prepare, Promise, Accept, Accepted, Nack, Chosen, Ask}
use Rattle.wf_model.specs.DurableState.{DurableState, published, definition_at}
use Rattle.wf_model.specs.VolatileState.{VolatileState, window}
use Rattle.wf_model.specs.Table.{store}
use Rattle.wf_model.specs.World.{Node, World, Event, Act, Stop, Restart, Torn, Kept, Turn, with_node, after_turn, after_torn, stop_running, after_stop, restart_stopped, after_restart, turn, happens, start}
use Rattle.wf_model.specs.Chosen.{IsIn, Voted, IsChosen, history}
use Rattle.wf_safety.specs.Theorems.{NodeHas, VoteNotBelow, IsBeginning}
use Rattle.wf_safety.specs.Replacement.{Change, Occurs, Replaces, replace_stopped, after_replacement, world_changed, changes, after_changes, HasChosenAlone, Covers, IsCovered, AreCovered, IsUpTo, HeldOnce, node_changed, AreElsewhere, Guard, HasWindowAfter, GuardCovers, IsGuarded, IsGuardedChange, AreGuarded, AgreementUnderGuard}
use Rattle.wf_safety.proofs.Members.{member-before, member-parts}
use Rattle.wf_safety.proofs.Facts.{IsNext, IsAskedAt, DurableFacts, MayPromise, MayAsk, MayVote, IsMeet, Sends}
use Rattle.wf_safety.proofs.RecordFacts.{published_chosen}
use Rattle.wf_safety.proofs.Worlds.{get-set_other, MemberFacts, WorldFacts, SomeTurnFacts, turn_facts}
use Rattle.wf_safety.proofs.Growth.{begins_through}
use Rattle.wf_safety.proofs.Theorems.{agreement_in, torn_sends, after_stop_sends, after_restart_sends}
use Rattle.wf_safety.proofs.Replacement.{changed_facts, changes_facts, changes_in_turn, covered_first, covered_then, covered_both, after_changes_facts, lists_grow}

-- ---- what a node has said

-- the message is a promise or a vote of node i, or asks for votes at a ballot of its
abbrev IsBy : {V : Type 0} → ℕ → Message V → Type 0
IsBy i (Prepare s b) = ⊥
IsBy i (Promise j s b votes) = j ≡ i
IsBy i (Accept s b d) = b.node ≡ i
IsBy i (Accepted j s b) = j ≡ i
IsBy i (Nack j s b promise) = ⊥
IsBy i (Chosen s d) = ⊥
IsBy i (Ask s) = ⊥

-- a node sends such messages of its own alone
own_message : {V : Type 0} (n k i : ℕ) (stored : DurableState V) (sent : List (Message V)) (m : Message V) → IsMeet n k stored sent m → IsBy i m → k ≡ i
own_message n k i stored sent (Prepare s b) meet by = absurd by
own_message n k i stored sent (Promise j s b votes) meet by = let may : MayPromise k stored sent j s b votes = meet in sym may.own ∙ by
own_message n k i stored sent (Accept s b d) meet by = let may : MayAsk n k stored sent s b d = meet in sym may.own ∙ by
own_message n k i stored sent (Accepted j s b) meet by = let may : MayVote k stored sent j s b = meet in sym may.own ∙ by
own_message n k i stored sent (Nack j s b promise) meet by = absurd by
own_message n k i stored sent (Chosen s d) meet by = absurd by
own_message n k i stored sent (Ask s) meet by = absurd by

own_sends : {V : Type 0} (n k i : ℕ) (stored : DurableState V) (sent new : List (Message V)) (m : Message V) → Sends n k stored sent new → IsIn m new → IsBy i m → k ≡ i
own_sends n k i stored sent [] m sends h by = absurd h
own_sends n k i stored sent (x ∷ rest) m sends (inl e) by = own_message n k i stored sent m (subst (IsMeet n k stored sent) (sym e) sends.0.meet) by
own_sends n k i stored sent (x ∷ rest) m sends (inr h) by = own_sends n k i stored (sent ++ x ∷ []) rest m sends.1 h by

module _ {V : Type 0} (w : World V) (k : ℕ) where
  -- a replacement sends nothing
  replace_sends : (stored : DurableState V) (volatile : Option (VolatileState V)) → (replace_stopped w k stored volatile).sent ≡ w.sent
  unfolding replace_stopped with_node
  replace_sends stored None = refl
  replace_sends stored (Some volatile) = refl

  replacement_sends : (stored : DurableState V) (node : Option (Node V)) → (after_replacement w k stored node).sent ≡ w.sent
  unfolding after_replacement
  replacement_sends stored None = refl
  replacement_sends stored (Some node) = replace_sends stored node.volatile

  -- what node i has said by the end of another node's step it had said before
  said_before_turn : (n i : ℕ) (m : Message V) (t : Option (Turn V)) → SomeTurnFacts n w k t → k ≢ i → IsBy i m → IsIn m (after_turn w k t).sent → IsIn m w.sent
  unfolding after_turn with_node
  said_before_turn n i m None known differs by h = h
  said_before_turn n i m (Some t) known differs by h = elim (member-parts m w.sent t.transition.messages h) [
    | inl old ↦ old
    | inr new ↦ absurd (differs (own_sends n k i (store t.stored t.transition.entry) w.sent t.transition.messages m known.step.sends new by))
  ]

  -- what was sent stays so
  sent_by_turn : (m : Message V) (t : Option (Turn V)) → IsIn m w.sent → IsIn m (after_turn w k t).sent
  unfolding after_turn with_node
  sent_by_turn m None h = h
  sent_by_turn m (Some t) h = member-before m w.sent t.transition.messages h

  -- another node isn't changed
  other_after_turn : (i : ℕ) (t : Option (Turn V)) → k ≢ i → slice_get (after_turn w k t).nodes i ≡ slice_get w.nodes i
  unfolding after_turn with_node
  other_after_turn i None differs = refl
  other_after_turn i (Some t) differs = get-set_other w.nodes k i _ (λ e. differs (sym e))

  other_after_torn : (i : ℕ) (kept : Kept) (t : Option (Turn V)) → k ≢ i → slice_get (after_torn w k kept t).nodes i ≡ slice_get w.nodes i
  unfolding after_torn with_node
  other_after_torn i kept None differs = refl
  other_after_torn i kept (Some t) differs = get-set_other w.nodes k i _ (λ e. differs (sym e))

  other_stopped : (i : ℕ) (stored : DurableState V) (volatile : Option (VolatileState V)) → k ≢ i → slice_get (stop_running w k stored volatile).nodes i ≡ slice_get w.nodes i
  unfolding stop_running with_node
  other_stopped i stored None differs = refl
  other_stopped i stored (Some volatile) differs = get-set_other w.nodes k i _ (λ e. differs (sym e))

  other_after_stop : (i : ℕ) (node : Option (Node V)) → k ≢ i → slice_get (after_stop w k node).nodes i ≡ slice_get w.nodes i
  unfolding after_stop
  other_after_stop i None differs = refl
  other_after_stop i (Some node) differs = other_stopped i node.stored node.volatile differs

  other_restarted : (i : ℕ) (stored : DurableState V) (volatile : Option (VolatileState V)) → k ≢ i → slice_get (restart_stopped w k stored volatile).nodes i ≡ slice_get w.nodes i
  unfolding restart_stopped with_node
  other_restarted i stored None differs = get-set_other w.nodes k i _ (λ e. differs (sym e))
  other_restarted i stored (Some volatile) differs = refl

  other_after_restart : (i : ℕ) (node : Option (Node V)) → k ≢ i → slice_get (after_restart w k node).nodes i ≡ slice_get w.nodes i
  unfolding after_restart
  other_after_restart i None differs = refl
  other_after_restart i (Some node) differs = other_restarted i node.stored node.volatile differs

  other_replaced : (i : ℕ) (new : DurableState V) (volatile : Option (VolatileState V)) → k ≢ i → slice_get (replace_stopped w k new volatile).nodes i ≡ slice_get w.nodes i
  unfolding replace_stopped with_node
  other_replaced i new None differs = get-set_other w.nodes k i _ (λ e. differs (sym e))
  other_replaced i new (Some volatile) differs = refl

  other_after_replacement : (i : ℕ) (new : DurableState V) (node : Option (Node V)) → k ≢ i → slice_get (after_replacement w k new node).nodes i ≡ slice_get w.nodes i
  unfolding after_replacement
  other_after_replacement i new None differs = refl
  other_after_replacement i new (Some node) differs = other_replaced i new node.volatile differs

-- ---- a run in which nothing happens to node i

module _ {V : Type 0} (same : V → V → Bool) (n : ℕ) where
  -- a list of messages that is the old one has the same messages
  same_sent : (old new : List (Message V)) (m : Message V) → new ≡ old → IsIn m new → IsIn m old
  same_sent old new m e h = subst (IsIn m) e h

  said_before_event : (w : World V) (event : Event V) (i : ℕ) (m : Message V) → WorldFacts n w → node_changed (Occurs event) ≢ i → IsBy i m →
      IsIn m (happens same w event).sent → IsIn m w.sent
  unfolding happens
  said_before_event w (Act k action) i m facts differs by h = said_before_turn w k n i m (turn same w k action) (turn_facts same n w facts k action) differs by h
  said_before_event w (Stop k) i m facts differs by h = same_sent w.sent _ m (after_stop_sends w k (slice_get w.nodes k)) h
  said_before_event w (Restart k) i m facts differs by h = same_sent w.sent _ m (after_restart_sends w k (slice_get w.nodes k)) h
  said_before_event w (Torn k action kept) i m facts differs by h = same_sent w.sent _ m (torn_sends w k kept (turn same w k action)) h

  said_before_change : (w : World V) (change : Change V) (i : ℕ) (m : Message V) → WorldFacts n w → node_changed change ≢ i → IsBy i m →
      IsIn m (world_changed same w change).sent → IsIn m w.sent
  unfolding world_changed
  said_before_change w (Occurs event) i m facts differs by h = said_before_event w event i m facts differs by h
  said_before_change w (Replaces k stored) i m facts differs by h = same_sent w.sent _ m (replacement_sends w k stored (slice_get w.nodes k)) h

  -- whatever node i has said by the end it had said before
  said_before : (w : World V) (since : List (Change V)) (i : ℕ) (m : Message V) → WorldFacts n w → AreCovered same n w since → AreElsewhere i since → IsBy i m →
      IsIn m (changes same w since).sent → IsIn m w.sent
  unfolding changes
  said_before w [] i m facts covered silent by h = h
  said_before w (change ∷ rest) i m facts covered silent by h =
      said_before_change w change i m facts silent.0 by
      (said_before (world_changed same w change) rest i m (changed_facts same n w change facts covered.0) covered.1 silent.1 by h)

  other_after_event : (w : World V) (event : Event V) (i : ℕ) → node_changed (Occurs event) ≢ i → slice_get (happens same w event).nodes i ≡ slice_get w.nodes i
  unfolding happens
  other_after_event w (Act k action) i differs = other_after_turn w k i (turn same w k action) differs
  other_after_event w (Stop k) i differs = other_after_stop w k i (slice_get w.nodes k) differs
  other_after_event w (Restart k) i differs = other_after_restart w k i (slice_get w.nodes k) differs
  other_after_event w (Torn k action kept) i differs = other_after_torn w k i kept (turn same w k action) differs

  other_after_change : (w : World V) (change : Change V) (i : ℕ) → node_changed change ≢ i → slice_get (world_changed same w change).nodes i ≡ slice_get w.nodes i
  unfolding world_changed
  other_after_change w (Occurs event) i differs = other_after_event w event i differs
  other_after_change w (Replaces k stored) i differs = other_after_replacement w k i stored (slice_get w.nodes k) differs

  -- and it is as it was
  is_as_before : (w : World V) (since : List (Change V)) (i : ℕ) → AreElsewhere i since → slice_get (changes same w since).nodes i ≡ slice_get w.nodes i
  unfolding changes
  is_as_before w [] i silent = refl
  is_as_before w (change ∷ rest) i silent = is_as_before (world_changed same w change) rest i silent.1 ∙ other_after_change w change i silent.0

  -- ---- what was sent stays so

  sent_by_event : (w : World V) (event : Event V) (m : Message V) → IsIn m w.sent → IsIn m (happens same w event).sent
  unfolding happens
  sent_by_event w (Act k action) m h = sent_by_turn w k m (turn same w k action) h
  sent_by_event w (Stop k) m h = subst (IsIn m) (sym (after_stop_sends w k (slice_get w.nodes k))) h
  sent_by_event w (Restart k) m h = subst (IsIn m) (sym (after_restart_sends w k (slice_get w.nodes k))) h
  sent_by_event w (Torn k action kept) m h = subst (IsIn m) (sym (torn_sends w k kept (turn same w k action))) h

  sent_by_change : (w : World V) (change : Change V) (m : Message V) → IsIn m w.sent → IsIn m (world_changed same w change).sent
  unfolding world_changed
  sent_by_change w (Occurs event) m h = sent_by_event w event m h
  sent_by_change w (Replaces k stored) m h = subst (IsIn m) (sym (replacement_sends w k stored (slice_get w.nodes k))) h

  still_sent : (w : World V) (list : List (Change V)) (m : Message V) → IsIn m w.sent → IsIn m (changes same w list).sent
  unfolding changes
  still_sent w [] m h = h
  still_sent w (change ∷ rest) m h = still_sent (world_changed same w change) rest m (sent_by_change w change m h)

-- ---- up to m

module _ {V : Type 0} (same : V → V → Bool) (n i m : ℕ) (w : World V) (since : List (Change V)) (facts : WorldFacts n w) (covered : AreCovered same n w since) (guard : Guard same n w since i m) where
  -- A vote that was sent by then is stored, or a later one is, until its sequence is published: so
  -- it is for a sequence up to m.
  vote_by : (j s : ℕ) (b : Ballot) (stored : DurableState V) (sent : List (Message V)) → DurableFacts n j stored sent → IsIn (Accepted j s b) sent → IsUpTo stored m → s ≤ m
  vote_by j s b stored sent known is_in up_to = elim (cases_lt m s) [
    | inl later ↦
        let most : published stored ≤ m = up_to.published_to in
        absurd (subst (λ o. VoteNotBelow o b) (up_to.voted_to s later) (known.voted s b is_in (omega arith)))
    | inr within ↦ within
  ]

  vote_up_to : (j s : ℕ) (b : Ballot) → HeldOnce same w since (λ (stored : DurableState V). IsUpTo stored m) j → IsIn (Accepted j s b) w.sent → s ≤ m
  vote_up_to j s b was is_in =
      let covered' : AreCovered same n w (was.earlier ++ was.later) = subst (AreCovered same n w) (sym was.moment) covered in
      let then_facts : WorldFacts n (changes same w was.earlier) = changes_facts same n w was.earlier facts (covered_first same n w was.earlier was.later covered') in
      let member : MemberFacts n j (changes same w was.earlier).sent (record { stored = was.stored; volatile = was.node.volatile }) =
      then_facts.nodes j (record { stored = was.stored; volatile = was.node.volatile }) was.node.is_there in
      vote_by j s b was.stored (changes same w was.earlier).sent member.stored (still_sent same n w was.earlier (Accepted j s b) is_in) was.held

  -- Half of all nodes share one with each majority, so what was chosen by then is so too.
  chosen_up_to : (s : ℕ) (d : V) → IsChosen n w.sent s d → s ≤ m
  chosen_up_to s d chosen =
      let most : n < 2 * count_nodes n chosen.majority.nodes = is_majority_of-true (count_nodes n chosen.majority.nodes) n chosen.majority.is_majority in
      let (j, shared) = sets_meet n guard.asked chosen.majority.nodes (omega (arith, guard.half)) in
      let voted : Voted w.sent s chosen.ballot d j = chosen.majority.each j shared.is_node shared.in_second in
      vote_up_to j s chosen.ballot (guard.each j shared.is_node shared.in_first) voted.stated

  -- so a sequence before which all were chosen is m + 1 at most
  next_up_to : (s : ℕ) → IsNext n w.sent s → s ≤ m + 1
  next_up_to s next = elim (cases_lt (m + 1) s) [
    | inl later ↦ (let chosen : (d : V) × IsChosen n w.sent (m + 1) d = next.earlier (m + 1) (omega arith) later in
        let within : m + 1 ≤ m = chosen_up_to (m + 1) chosen.0 chosen.1 in
        absurd (omega arith))
    | inr within ↦ within
  ]

  -- ---- the state covers

  chosen_is_sequence : (s : ℕ) (d : V) → IsChosen n w.sent s d → s ≤ last_sequence
  chosen_is_sequence s d chosen =
      let (j, (is_node, first, second)) = majorities_meet n (Voted w.sent s chosen.ballot d) (Voted w.sent s chosen.ballot d) chosen.majority chosen.majority in
      (facts.messages.backed s chosen.ballot d first.asked).in_window.is_sequence

  module _ (stored : DurableState V) (far : HasWindowAfter m stored) where
    reaches : (t : ℕ) → t ≤ m + window → t ≤ last_sequence → t ≤ published stored
    reaches t near is_sequence = elim far [ inl h ↦ omega arith | inr h ↦ omega arith ]

    asked_reaches : (s : ℕ) (b : Ballot) (d : V) → IsIn (Accept s b d) w.sent → s ≤ published stored
    asked_reaches s b d is_in =
        let near : s ≤ m + 1 = next_up_to s (facts.messages.asked_next s b d is_in) in
        reaches s (omega arith) (facts.messages.backed s b d is_in).in_window.is_sequence

    -- the published list of node i, which is as it was
    list_reaches : (old : DurableState V) (t : ℕ) → DurableFacts n i old w.sent → 1 ≤ t → t ≤ published old → t ≤ published stored
    unfolding published
    list_reaches old t known from within =
        let chosen : (d : V) × IsChosen n w.sent t d = published_chosen n i old w.sent known t from (omega arith) in
        let near : t ≤ m = chosen_up_to t chosen.0 chosen.1 in
        reaches t (omega arith) (chosen_is_sequence t chosen.0 chosen.1)

    whole_list_reaches : (old : DurableState V) (t : ℕ) → t ≡ published old → DurableFacts n i old w.sent → published old ≤ published stored
    whole_list_reaches old zero e known = omega arith
    whole_list_reaches old (suc k) e known = let within : suc k ≤ published stored = list_reaches old (suc k) known (omega arith) (omega arith) in omega arith

    pub guarded_covers : (old : DurableState V) → NodeHas (changes same w since) i old → HasChosenAlone n (changes same w since).sent stored →
        Covers n (changes same w since).sent i old stored
    guarded_covers old node alone =
        let there : slice_get w.nodes i ≡ Some (record { stored = old; volatile = node.volatile }) = sym (is_as_before same n w since i guard.silent) ∙ node.is_there in
        let member : MemberFacts n i w.sent (record { stored = old; volatile = node.volatile }) = facts.nodes i (record { stored = old; volatile = node.volatile }) there in
        record {
          chosen_alone = alone;
          grown = whole_list_reaches old (published old) refl member.stored;
          voted = λ s b is_in.
              let said : IsIn (Accepted i s b) w.sent = said_before same n w since i (Accepted i s b) facts covered guard.silent refl is_in in
              let asked : IsAskedAt w.sent s b = facts.messages.answered i s b said in
              asked_reaches s b asked.definition asked.asked;
          asked = λ s b d is_in of_i.
              asked_reaches s b d (said_before same n w since i (Accept s b d) facts covered guard.silent of_i is_in);
          promised = λ s b votes is_in t in_window.
              let said : IsIn (Promise i s b votes) w.sent = said_before same n w since i (Promise i s b votes) facts covered guard.silent refl is_in in
              let near : s ≤ m + 1 = next_up_to s (facts.messages.prepared_next s b (facts.messages.requested i s b votes said)) in
              let before_end : t < s + window = in_window.before_end in
              reaches t (omega arith) in_window.is_sequence;
        }

pub guard_covers : (V : Type 0) → GuardCovers V
unfolding after_changes
guard_covers V = λ same n i m before since old stored covered guard node alone far.
    subst (λ (x : World V). Covers n x.sent i old stored) (sym (changes_in_turn same n (start n) before since))
    (guarded_covers same n i m (changes same (start n) before) since (after_changes_facts same n before (covered_first same n (start n) before since covered))
    (covered_then same n (start n) before since covered) guard stored far old
    (subst (λ (x : World V). NodeHas x i old) (changes_in_turn same n (start n) before since) node)
    (subst (λ (x : World V). HasChosenAlone n x.sent stored) (changes_in_turn same n (start n) before since) alone))

-- ---- agreement under the guard

-- an element of a list's beginning is one of the list
at_longer : {A : Type 0} (xs ys : List A) (k : ℕ) (x : A) → slice_get xs k ≡ Some x → slice_get (xs ++ ys) k ≡ Some x
at_longer [] ys k x at = absurd (none-some x at)
at_longer (y ∷ xs) ys zero x at = at
at_longer (y ∷ xs) ys (suc k) x at = at_longer xs ys k x at

published_longer : {V : Type 0} (xs ys : List V) (s : ℕ) (d : V) → IsBeginning xs ys → definition_at xs s ≡ Some d → definition_at ys s ≡ Some d
unfolding definition_at
published_longer xs ys zero d begins at = absurd (none-some d at)
published_longer xs ys (suc k) d begins at = subst (λ zs. slice_get zs k ≡ Some d) begins.1 (at_longer xs begins.0 k d at)

module _ {V : Type 0} (same : V → V → Bool) (n : ℕ) where
  -- a copy of what a node has published is chosen
  copied_chosen : (list : List (Change V)) (i : ℕ) (stored : DurableState V) → AreCovered same n (start n) list → IsGuarded same n list i stored →
      HasChosenAlone n (after_changes same n list).sent stored
  copied_chosen list i stored covered guarded =
      let grown : IsBeginning (history (after_changes same n guarded.known) guarded.source) (history (after_changes same n list) guarded.source) =
      subst (λ (x : List (Change V)). IsBeginning (history (after_changes same n guarded.known) guarded.source) (history (after_changes same n x) guarded.source)) guarded.by_then
      (lists_grow same n guarded.source guarded.known guarded.rest (subst (AreCovered same n (start n)) (sym guarded.by_then) covered)) in
      record {
        copy = guarded.copy;
        chosen = λ s d at.
            (agreement_in n (after_changes same n list) (after_changes_facts same n list covered)).published_is_chosen guarded.source s d
            (published_longer stored.history (history (after_changes same n list) guarded.source) s d
            (begins_through stored.history (history (after_changes same n guarded.known) guarded.source) (history (after_changes same n list) guarded.source) guarded.copied grown) at);
      }

  replacement_covered : (list : List (Change V)) (i : ℕ) (stored old : DurableState V) → AreCovered same n (start n) list → IsGuarded same n list i stored →
      slice_get (after_changes same n list).nodes i ≡ Some (record { stored = old; volatile = None }) → Covers n (after_changes same n list).sent i old stored
  replacement_covered list i stored old covered guarded is_there =
      let alone : HasChosenAlone n (after_changes same n list).sent stored = copied_chosen list i stored covered guarded in
      let node : NodeHas (after_changes same n list) i old = record { volatile = None; is_there = is_there } in
      let to_parts : guarded.before ++ guarded.since ≡ list = guarded.parts in
      subst (λ (x : List (Change V)). Covers n (after_changes same n x).sent i old stored) to_parts
      (guard_covers V same n i guarded.m guarded.before guarded.since old stored
      (subst (AreCovered same n (start n)) (sym to_parts) covered) guarded.guard
      (subst (λ (x : List (Change V)). NodeHas (after_changes same n x) i old) (sym to_parts) node)
      (subst (λ (x : List (Change V)). HasChosenAlone n (after_changes same n x).sent stored) (sym to_parts) alone)
      guarded.far)

  change_covered : (list : List (Change V)) (change : Change V) → AreCovered same n (start n) list → IsGuardedChange same n list change → IsCovered n (after_changes same n list) change
  change_covered list (Occurs event) covered guarded = tt
  change_covered list (Replaces i stored) covered guarded = λ old is_there. replacement_covered list i stored old covered guarded is_there

  after_one_more : (list : List (Change V)) (change : Change V) → after_changes same n (list ++ change ∷ []) ≡ world_changed same (after_changes same n list) change
  unfolding after_changes changes
  after_one_more list change = changes_in_turn same n (start n) list (change ∷ [])

  covered_one_more : (list : List (Change V)) (change : Change V) → AreCovered same n (start n) list → IsCovered n (after_changes same n list) change → AreCovered same n (start n) (list ++ change ∷ [])
  unfolding after_changes
  covered_one_more list change covered this = covered_both same n (start n) list (change ∷ []) covered (this, tt)

  guarded_covered : (list rest : List (Change V)) → AreCovered same n (start n) list → AreGuarded same n list rest → AreCovered same n (after_changes same n list) rest
  guarded_covered list [] covered guarded = tt
  guarded_covered list (change ∷ rest) covered guarded =
      let this : IsCovered n (after_changes same n list) change = change_covered list change covered guarded.0 in (
        this,
        subst (λ (x : World V). AreCovered same n x rest) (after_one_more list change)
            (guarded_covered (list ++ change ∷ []) rest (covered_one_more list change covered this) guarded.1),
      )

  all_covered : (list : List (Change V)) → AreGuarded same n [] list → AreCovered same n (start n) list
  unfolding after_changes changes
  all_covered list guarded = guarded_covered [] list tt guarded

pub agreement_under_guard : (V : Type 0) → AgreementUnderGuard V
agreement_under_guard V = record {
  facts = λ same n list guarded. agreement_in n (after_changes same n list) (after_changes_facts same n list (all_covered same n list guarded));
  grows = λ same n i list more guarded. lists_grow same n i list more (all_covered same n (list ++ more) guarded);
  covered = λ same n list guarded. all_covered same n list guarded;
}
