-- What only grows: the published lists, over each event and each run.
use Rattle.std.proofs.Common.{◌≡◌, ℕ, nat_lt, Bool, true, false, List, [], ◌∷◌, ◌++◌, slice_get, slice_set, Option, Some, None, refl, sym, subst, ◌∙◌, inl, inr, append_assoc, append-nil}
use Rattle.std.proofs.lemmas.Bool.{cases_eq}
use Rattle.wf_ballot.specs.Ballot.{Ballot}
use Rattle.wf_model.specs.DurableState.{DurableState, Record, Tried, Promised, Accepted, Published, published, with_record}
use Rattle.wf_model.specs.VolatileState.{VolatileState, at_start}
use Rattle.wf_model.specs.Table.{store}
use Rattle.wf_model.specs.World.{Node, World, Event, Act, Stop, Restart, Torn, Kept, Before, After, Turn, stored_after, kept_part, with_node, after_turn, after_torn, stop_running, after_stop, restart_stopped, after_restart, turn, happens, steps, start, after}
use Rattle.wf_model.specs.Chosen.{history_of, history}
use Rattle.wf_model.specs.StepsTheorems.{steps_in_turn}
use Rattle.wf_safety.specs.Theorems.{IsBeginning}
use Rattle.wf_safety.proofs.Worlds.{get-set_same, get-set_other, WorldFacts, SomeTurnFacts, turn_facts, happens_facts, after_facts}

-- ---- prefixes of lists

pub begins_itself : {A : Type 0} (xs : List A) → IsBeginning xs xs
begins_itself xs = ([], append-nil xs)

pub begins_through : {A : Type 0} (xs ys zs : List A) → IsBeginning xs ys → IsBeginning ys zs → IsBeginning xs zs
begins_through xs ys zs (rest, e) (more, h) =
    (rest ++ more, sym (append_assoc xs rest more) ∙ subst (λ k. k ++ more ≡ zs) (sym e) h)

-- ---- a record

module _ {V : Type 0} (stored : DurableState V) where
  accepted_grows : (s : ℕ) (b : Ballot) (d : V) (is_open : Bool) → nat_lt (published stored) s ≡ is_open → IsBeginning stored.history (with_record stored (Accepted s b d)).history
  unfolding with_record
  accepted_grows s b d true e = rw e (begins_itself stored.history)
  accepted_grows s b d false e = rw e (begins_itself stored.history)

  record_grows : (r : Record V) → IsBeginning stored.history (with_record stored r).history
  unfolding with_record
  record_grows (Tried r) = begins_itself stored.history
  record_grows (Promised s b) = begins_itself stored.history
  record_grows (Accepted s b d) = accepted_grows s b d (nat_lt (published stored) s) refl
  record_grows (Published s d) = (d ∷ [], refl)

  pub store_grows : (entry : Option (Record V)) → IsBeginning stored.history (store stored entry).history
  unfolding store
  store_grows None = begins_itself stored.history
  store_grows (Some r) = record_grows r

-- ---- an event

module _ {V : Type 0} (w : World V) (i : ℕ) where
  -- a node's list grows, and every other list stays
  pub set_grows : (old new : Node V) → slice_get w.nodes i ≡ Some old → IsBeginning old.stored.history new.stored.history → (j : ℕ) →
      IsBeginning (history_of (slice_get w.nodes j)) (history_of (slice_get (slice_set w.nodes i new) j))
  unfolding history_of
  set_grows old new is_there grows j = elim (cases_eq j i) [
    | inl same ↦ rw (same, is_there, get-set_same w.nodes i new old is_there) grows
    | inr differs ↦ rw (get-set_other w.nodes i j new differs) (begins_itself (history_of (slice_get w.nodes j)))
  ]

  turn_grows : (n : ℕ) (t : Option (Turn V)) → SomeTurnFacts n w i t → (j : ℕ) → IsBeginning (history w j) (history (after_turn w i t) j)
  unfolding after_turn with_node stored_after history
  turn_grows n None known j = begins_itself (history_of (slice_get w.nodes j))
  turn_grows n (Some t) known j =
      set_grows (record { stored = t.stored; volatile = Some known.volatile }) (record { stored = store t.stored t.transition.entry; volatile = Some t.transition.volatile })
      known.is_there (store_grows t.stored t.transition.entry) j

  kept_grows : (kept : Kept) (t : Turn V) → IsBeginning t.stored.history (kept_part kept t).history
  unfolding kept_part stored_after
  kept_grows Before t = begins_itself t.stored.history
  kept_grows After t = store_grows t.stored t.transition.entry

  torn_grows : (n : ℕ) (kept : Kept) (t : Option (Turn V)) → SomeTurnFacts n w i t → (j : ℕ) → IsBeginning (history w j) (history (after_torn w i kept t) j)
  unfolding after_torn with_node history
  torn_grows n kept None known j = begins_itself (history_of (slice_get w.nodes j))
  torn_grows n kept (Some t) known j =
      set_grows (record { stored = t.stored; volatile = Some known.volatile }) (record { stored = kept_part kept t; volatile = None }) known.is_there (kept_grows kept t) j

  stop_grows : (stored : DurableState V) (volatile : Option (VolatileState V)) → slice_get w.nodes i ≡ Some (record { stored = stored; volatile = volatile }) → (j : ℕ) →
      IsBeginning (history w j) (history (stop_running w i stored volatile) j)
  unfolding stop_running with_node history
  stop_grows stored None is_there j = begins_itself (history_of (slice_get w.nodes j))
  stop_grows stored (Some volatile) is_there j =
      set_grows (record { stored = stored; volatile = Some volatile }) (record { stored = stored; volatile = None }) is_there (begins_itself stored.history) j

  after_stop_grows : (node : Option (Node V)) → slice_get w.nodes i ≡ node → (j : ℕ) → IsBeginning (history w j) (history (after_stop w i node) j)
  unfolding after_stop history
  after_stop_grows None is_there j = begins_itself (history_of (slice_get w.nodes j))
  after_stop_grows (Some node) is_there j = stop_grows node.stored node.volatile is_there j

  restart_grows : (stored : DurableState V) (volatile : Option (VolatileState V)) → slice_get w.nodes i ≡ Some (record { stored = stored; volatile = volatile }) → (j : ℕ) →
      IsBeginning (history w j) (history (restart_stopped w i stored volatile) j)
  unfolding restart_stopped with_node history
  restart_grows stored None is_there j =
      set_grows (record { stored = stored; volatile = None }) (record { stored = stored; volatile = Some at_start }) is_there (begins_itself stored.history) j
  restart_grows stored (Some volatile) is_there j = begins_itself (history_of (slice_get w.nodes j))

  after_restart_grows : (node : Option (Node V)) → slice_get w.nodes i ≡ node → (j : ℕ) → IsBeginning (history w j) (history (after_restart w i node) j)
  unfolding after_restart history
  after_restart_grows None is_there j = begins_itself (history_of (slice_get w.nodes j))
  after_restart_grows (Some node) is_there j = restart_grows node.stored node.volatile is_there j

-- ---- a run

module _ {V : Type 0} (same : V → V → Bool) (n : ℕ) where
  pub happens_grows : (w : World V) (event : Event V) → WorldFacts n w → (j : ℕ) → IsBeginning (history w j) (history (happens same w event) j)
  unfolding happens
  happens_grows w (Act i action) facts = turn_grows w i n (turn same w i action) (turn_facts same n w facts i action)
  happens_grows w (Stop i) facts = after_stop_grows w i (slice_get w.nodes i) refl
  happens_grows w (Restart i) facts = after_restart_grows w i (slice_get w.nodes i) refl
  happens_grows w (Torn i action kept) facts = torn_grows w i n kept (turn same w i action) (turn_facts same n w facts i action)

  steps_grow : (w : World V) (more : List (Event V)) → WorldFacts n w → (j : ℕ) → IsBeginning (history w j) (history (steps same w more) j)
  unfolding steps
  steps_grow w [] facts j = begins_itself (history w j)
  steps_grow w (event ∷ rest) facts j =
      begins_through (history w j) (history (happens same w event) j) (history (steps same (happens same w event) rest) j)
      (happens_grows w event facts j) (steps_grow (happens same w event) rest (happens_facts same n w event facts) j)

  pub history_grows : (i : ℕ) (events more : List (Event V)) → IsBeginning (history (after same n events) i) (history (after same n (events ++ more)) i)
  unfolding after
  history_grows i events more =
      subst (λ (x : World V). IsBeginning (history (steps same (start n) events) i) (history x i)) (sym (steps_in_turn V same (start n) events more))
      (steps_grow (steps same (start n) events) more (run_facts events) i)
    where
      run_facts : (list : List (Event V)) → WorldFacts n (steps same (start n) list)
      run_facts list = after_facts same n list
