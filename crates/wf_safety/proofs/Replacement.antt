-- A replacement whose state covers what its node may have said keeps all facts, and the node's
-- published list.
use Rattle.std.proofs.Common.{◌≡◌, ℕ, zero, suc, ◌≤◌, Bool, List, [], ◌∷◌, ◌++◌, length, slice_get, Option, Some, None, refl, sym, ap, subst, ◌∙◌, arith}
use Rattle.std.proofs.lemmas.Option.{none-some}
use Rattle.wf_model.specs.Message.{Message}
use Rattle.wf_model.specs.DurableState.{DurableState, published, definition_at}
use Rattle.wf_model.specs.VolatileState.{VolatileState}
use Rattle.wf_model.specs.World.{Node, World, Event, with_node, happens, steps, start, after}
use Rattle.wf_model.specs.Chosen.{history_of, history}
use Rattle.wf_safety.specs.Theorems.{IsBeginning}
use Rattle.wf_safety.specs.Replacement.{Change, Occurs, Replaces, replace_stopped, after_replacement, world_changed, changes, after_changes, without_loss, Covers, IsCovered, AreCovered, AgreementWithReplacements}
use Rattle.wf_safety.proofs.Facts.{DurableFacts}
use Rattle.wf_safety.proofs.Worlds.{MemberFacts, WorldFacts, with_node_facts, happens_facts, start_facts}
use Rattle.wf_safety.proofs.Core.{one_chosen}
use Rattle.wf_safety.proofs.Growth.{begins_itself, begins_through, set_grows, happens_grows}
use Rattle.wf_safety.proofs.Theorems.{agreement_in}

-- Whatever its node sent is of sequences that are published now, so nothing more is required of a
-- vote or a promise.
pub covered_facts : {V : Type 0} (n i : ℕ) (old stored : DurableState V) (sent : List (Message V)) → Covers n sent i old stored → DurableFacts n i stored sent
covered_facts n i old stored sent covers = record {
  tried = λ s b d is_in of_i is_open. let closed : s ≤ published stored = covers.asked s b d is_in of_i in absurd (omega arith);
  open_votes = λ s closed. covers.chosen_alone.copy.no_votes s;
  promised = λ s b votes is_in t in_window is_open. let closed : t ≤ published stored = covers.promised s b votes is_in t in_window in absurd (omega arith);
  accepted = λ s b is_in is_open. let closed : s ≤ published stored = covers.voted s b is_in in absurd (omega arith);
  voted = λ s b is_in is_open. let closed : s ≤ published stored = covers.voted s b is_in in absurd (omega arith);
  vote_asked = λ s vote e. absurd (none-some vote (sym (covers.chosen_alone.copy.no_votes s) ∙ e));
  vote_within = λ s vote e. absurd (none-some vote (sym (covers.chosen_alone.copy.no_votes s) ∙ e));
  promise_stands = λ b e. absurd (none-some b (sym covers.chosen_alone.copy.no_promise ∙ e));
  chosen = covers.chosen_alone.chosen;
}

-- ---- the published list

-- a list that isn't longer than another one, and has the same elements, begins it
begins_longer : {A : Type 0} (xs ys : List A) → length xs ≤ length ys → ((k : ℕ) (x y : A) → slice_get xs k ≡ Some x → slice_get ys k ≡ Some y → x ≡ y) → IsBeginning xs ys
begins_longer [] ys shorter alike = (ys, refl)
begins_longer (x ∷ xs) [] shorter alike = absurd (omega arith)
begins_longer (x ∷ xs) (y ∷ ys) shorter alike =
    let rest : IsBeginning xs ys = begins_longer xs ys (omega arith) (λ k a b at other. alike (suc k) a b at other) in
    (rest.0, ap (λ z. z ∷ (xs ++ rest.0)) (alike zero x y refl refl) ∙ ap (λ zs. y ∷ zs) rest.1)

module _ {V : Type 0} (n : ℕ) (w : World V) (facts : WorldFacts n w) (i : ℕ) where
  -- the old definitions and the new ones are chosen, and at most one is for a sequence
  covered_grows : (old stored : DurableState V) → DurableFacts n i old w.sent → Covers n w.sent i old stored → IsBeginning old.history stored.history
  unfolding published definition_at
  covered_grows old stored known covers =
      begins_longer old.history stored.history covers.grown
      (λ k x y at other. one_chosen n w.sent facts.messages (suc k) x y (known.chosen (suc k) x at) (covers.chosen_alone.chosen (suc k) y other))

  -- ---- a replacement

  replace_facts : (stored old : DurableState V) (volatile : Option (VolatileState V)) → slice_get w.nodes i ≡ Some (record { stored = old; volatile = volatile }) →
      IsCovered n w (Replaces i stored) → WorldFacts n (replace_stopped w i stored volatile)
  unfolding replace_stopped
  replace_facts stored old None is_there covered =
      with_node_facts n w i stored None (record { stored = old; volatile = None }) facts is_there (covered_facts n i old stored w.sent (covered old is_there)) tt
  replace_facts stored old (Some volatile) is_there covered = facts

  replacement_facts : (stored : DurableState V) (node : Option (Node V)) → slice_get w.nodes i ≡ node → IsCovered n w (Replaces i stored) → WorldFacts n (after_replacement w i stored node)
  unfolding after_replacement
  replacement_facts stored None is_there covered = facts
  replacement_facts stored (Some node) is_there covered = replace_facts stored node.stored node.volatile is_there covered

  replace_grows : (stored old : DurableState V) (volatile : Option (VolatileState V)) → slice_get w.nodes i ≡ Some (record { stored = old; volatile = volatile }) →
      IsCovered n w (Replaces i stored) → (j : ℕ) → IsBeginning (history w j) (history (replace_stopped w i stored volatile) j)
  unfolding replace_stopped with_node history
  replace_grows stored old None is_there covered j =
      let member : MemberFacts n i w.sent (record { stored = old; volatile = None }) = facts.nodes i (record { stored = old; volatile = None }) is_there in
      set_grows w i (record { stored = old; volatile = None }) (record { stored = stored; volatile = None }) is_there
      (covered_grows old stored member.stored (covered old is_there)) j
  replace_grows stored old (Some volatile) is_there covered j = begins_itself (history_of (slice_get w.nodes j))

  replacement_grows : (stored : DurableState V) (node : Option (Node V)) → slice_get w.nodes i ≡ node → IsCovered n w (Replaces i stored) →
      (j : ℕ) → IsBeginning (history w j) (history (after_replacement w i stored node) j)
  unfolding after_replacement
  replacement_grows stored None is_there covered j = begins_itself (history w j)
  replacement_grows stored (Some node) is_there covered j = replace_grows stored node.stored node.volatile is_there covered j

-- ---- runs

module _ {V : Type 0} (same : V → V → Bool) (n : ℕ) where
  pub changed_facts : (w : World V) (change : Change V) → WorldFacts n w → IsCovered n w change → WorldFacts n (world_changed same w change)
  unfolding world_changed
  changed_facts w (Occurs event) facts covered = happens_facts same n w event facts
  changed_facts w (Replaces i stored) facts covered = replacement_facts n w facts i stored (slice_get w.nodes i) refl covered

  pub changes_facts : (w : World V) (list : List (Change V)) → WorldFacts n w → AreCovered same n w list → WorldFacts n (changes same w list)
  unfolding changes
  changes_facts w [] facts covered = facts
  changes_facts w (change ∷ rest) facts covered = changes_facts (world_changed same w change) rest (changed_facts w change facts covered.0) covered.1

  changed_grows : (w : World V) (change : Change V) → WorldFacts n w → IsCovered n w change → (j : ℕ) → IsBeginning (history w j) (history (world_changed same w change) j)
  unfolding world_changed
  changed_grows w (Occurs event) facts covered j = happens_grows same n w event facts j
  changed_grows w (Replaces i stored) facts covered j = replacement_grows n w facts i stored (slice_get w.nodes i) refl covered j

  pub changes_grow : (w : World V) (list : List (Change V)) → WorldFacts n w → AreCovered same n w list → (j : ℕ) → IsBeginning (history w j) (history (changes same w list) j)
  unfolding changes
  changes_grow w [] facts covered j = begins_itself (history w j)
  changes_grow w (change ∷ rest) facts covered j =
      begins_through (history w j) (history (world_changed same w change) j) (history (changes same (world_changed same w change) rest) j)
      (changed_grows w change facts covered.0 j) (changes_grow (world_changed same w change) rest (changed_facts w change facts covered.0) covered.1 j)

  -- ---- two runs in turn

  pub changes_in_turn : (w : World V) (list more : List (Change V)) → changes same w (list ++ more) ≡ changes same (changes same w list) more
  unfolding changes
  changes_in_turn w [] more = refl
  changes_in_turn w (change ∷ rest) more = changes_in_turn (world_changed same w change) rest more

  pub covered_first : (w : World V) (list more : List (Change V)) → AreCovered same n w (list ++ more) → AreCovered same n w list
  covered_first w [] more covered = tt
  covered_first w (change ∷ rest) more covered = (covered.0, covered_first (world_changed same w change) rest more covered.1)

  pub covered_then : (w : World V) (list more : List (Change V)) → AreCovered same n w (list ++ more) → AreCovered same n (changes same w list) more
  unfolding changes
  covered_then w [] more covered = covered
  covered_then w (change ∷ rest) more covered = covered_then (world_changed same w change) rest more covered.1

  pub covered_both : (w : World V) (list more : List (Change V)) → AreCovered same n w list → AreCovered same n (changes same w list) more → AreCovered same n w (list ++ more)
  unfolding changes
  covered_both w [] more covered later = later
  covered_both w (change ∷ rest) more covered later = (covered.0, covered_both (world_changed same w change) rest more covered.1 later)

  -- ---- from the start

  pub after_changes_facts : (list : List (Change V)) → AreCovered same n (start n) list → WorldFacts n (after_changes same n list)
  unfolding after_changes
  after_changes_facts list covered = changes_facts (start n) list (start_facts n) covered

  pub lists_grow : (i : ℕ) (list more : List (Change V)) → AreCovered same n (start n) (list ++ more) →
      IsBeginning (history (after_changes same n list) i) (history (after_changes same n (list ++ more)) i)
  unfolding after_changes
  lists_grow i list more covered =
      subst (λ (x : World V). IsBeginning (history (changes same (start n) list) i) (history x i)) (sym (changes_in_turn (start n) list more))
      (changes_grow (changes same (start n) list) more (changes_facts (start n) list (start_facts n) (covered_first (start n) list more covered))
      (covered_then (start n) list more covered) i)

  -- ---- events alone

  events_same : (w : World V) (events : List (Event V)) → changes same w (without_loss events) ≡ steps same w events
  unfolding changes world_changed without_loss steps
  events_same w [] = refl
  events_same w (event ∷ events) = events_same (happens same w event) events

  events_from_start : (events : List (Event V)) → after_changes same n (without_loss events) ≡ after same n events
  unfolding after_changes after
  events_from_start events = events_same (start n) events

  events_covered : (w : World V) (events : List (Event V)) → AreCovered same n w (without_loss events)
  unfolding without_loss
  events_covered w [] = tt
  events_covered w (event ∷ events) = (tt, events_covered (world_changed same w (Occurs event)) events)

pub agreement_with_replacements : (V : Type 0) → AgreementWithReplacements V
agreement_with_replacements V = record {
  facts = λ same n list covered. agreement_in n (after_changes same n list) (after_changes_facts same n list covered);
  grows = λ same n i list more covered. lists_grow same n i list more covered;
  events_alone = λ same n events. events_from_start same n events;
  events_covered = λ same n events. events_covered same n (start n) events;
}
