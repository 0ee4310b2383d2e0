-- What a process has published only grows.
use Rattle.std.proofs.Common.{◌≡◌, ℕ, zero, suc, ◌≤◌, nat_lt, Bool, true, false, cond, List, [], ◌∷◌, ◌++◌, Option, Some, None, is_some, refl, sym, ap, subst, ◌∙◌, inl, inr, append_assoc, append-nil, arith}
use Rattle.std.proofs.lemmas.Option.{none-some, same_Some}
use Rattle.wf_ballot.specs.Ballot.{Ballot}
use Rattle.wf_safety.specs.Theorems.{IsBeginning}
use Rattle.wf_model.specs.Message.{Message}
use Rattle.wf_model.specs.DurableState.{DurableState, Record, Tried, Promised, Accepted, Published, published, with_record}
use Rattle.wf_model.specs.VolatileState.{VolatileState}
use Rattle.wf_model.specs.Table.{Input, step_rejection, store}
use Rattle.wf_model.specs.World.{Node, Kept, Before, After, Turn, stored_after, kept_part, turn_running, turn_of}
use Rattle.wf_trace.specs.Deed.{Deed, Takes, Crashes, Stops, Restarts, IsDone}
use Rattle.wf_trace.specs.Trace.{Entry, IsLifeByEntries, node_at}
use Rattle.wf_trace.specs.Theorems.{ListsGrow}

-- ---- beginnings of lists

pub begins_itself : {A : Type 0} (xs : List A) → IsBeginning xs xs
begins_itself xs = ([], append-nil xs)

pub begins_through : {A : Type 0} (xs ys zs : List A) → IsBeginning xs ys → IsBeginning ys zs → IsBeginning xs zs
begins_through xs ys zs (rest, e) (more, h) = (rest ++ more, sym (append_assoc xs rest more) ∙ subst (λ k. k ++ more ≡ zs) (sym e) h)

-- ---- a turn

module _ {V : Type 0} (stored : DurableState V) where
  accepted_grows : (s : ℕ) (b : Ballot) (d : V) (is_open : Bool) → nat_lt (published stored) s ≡ is_open → IsBeginning stored.history (with_record stored (Accepted s b d)).history
  unfolding with_record
  accepted_grows s b d true e = rw e (begins_itself stored.history)
  accepted_grows s b d false e = rw e (begins_itself stored.history)

  record_grows : (r : Record V) → IsBeginning stored.history (with_record stored r).history
  unfolding with_record
  record_grows (Tried r) = begins_itself stored.history
  record_grows (Promised s b) = begins_itself stored.history
  record_grows (Accepted s b d) = accepted_grows s b d (nat_lt (published stored) s) refl
  record_grows (Published s d) = (d ∷ [], refl)

  store_grows : (entry : Option (Record V)) → IsBeginning stored.history (store stored entry).history
  unfolding store
  store_grows None = begins_itself stored.history
  store_grows (Some r) = record_grows r

-- a crash leaves the list of before the step or that of after it
kept_grows : {V : Type 0} (kept : Kept) (turn : Turn V) → IsBeginning turn.stored.history (kept_part kept turn).history
unfolding kept_part stored_after
kept_grows Before turn = begins_itself turn.stored.history
kept_grows After turn = store_grows turn.stored turn.transition.entry

only_if : {A : Type 0} (b : Bool) (x y : A) → cond b None (Some x) ≡ Some y → x ≡ y
only_if true x y e = absurd (none-some y e)
only_if false x y e = same_Some x y e

module _ {V : Type 0} (same : V → V → Bool) (n i : ℕ) where
  -- a turn begins from what its node had stored
  running_stored : (stored : DurableState V) (volatile : Option (VolatileState V)) (input : Input V) (turn : Turn V) → turn_running same n i stored volatile input ≡ Some turn → stored ≡ turn.stored
  unfolding turn_running
  running_stored stored None input turn effect = absurd (none-some turn effect)
  running_stored stored (Some volatile) input turn effect = ap (λ (t : Turn V). t.stored) (only_if (is_some (step_rejection stored volatile input)) _ turn effect)

  turn_stored : (node : Node V) (input : Input V) (turn : Turn V) → turn_of same n i (Some node) (Some input) ≡ Some turn → node.stored ≡ turn.stored
  unfolding turn_of
  turn_stored node input turn effect = running_stored node.stored node.volatile input turn effect

  -- ---- a deed, and a life

  deed_grows : (deed : Deed V) (before node : Node V) (outputs : List (Message V)) → IsDone same n i before deed outputs node → IsBeginning before.stored.history node.stored.history
  unfolding stored_after
  deed_grows (Takes input) before node outputs (inl step) =
      subst (λ (x : Node V). IsBeginning before.stored.history x.stored.history) (sym step.node)
      (subst (λ (x : DurableState V). IsBeginning x.history (store step.turn.stored step.turn.transition.entry).history) (sym (turn_stored before input step.turn step.effect)) (store_grows step.turn.stored step.turn.transition.entry))
  deed_grows (Takes input) before node outputs (inr is) =
      subst (λ (x : Node V). IsBeginning before.stored.history x.stored.history) (sym is.same_node) (begins_itself before.stored.history)
  deed_grows (Crashes input kept) before node outputs tear =
      subst (λ (x : Node V). IsBeginning before.stored.history x.stored.history) (sym tear.node)
      (subst (λ (x : DurableState V). IsBeginning x.history (kept_part kept tear.turn).history) (sym (turn_stored before input tear.turn tear.effect)) (kept_grows kept tear.turn))
  deed_grows Stops before node outputs is =
      subst (λ (x : Node V). IsBeginning before.stored.history x.stored.history) (sym is.node) (begins_itself before.stored.history)
  deed_grows Restarts before node outputs is =
      subst (λ (x : Node V). IsBeginning before.stored.history x.stored.history) (sym is.node) (begins_itself before.stored.history)

  grows_from_first : (node node_after : Node V) (entries : List (Entry V)) (life : IsLifeByEntries same n i node entries node_after) (many : ℕ) →
      IsBeginning node.stored.history (node_at same n i node entries node_after life many).stored.history
  grows_from_first node node_after [] life many = begins_itself node.stored.history
  grows_from_first node node_after (entry ∷ entries) life zero = begins_itself node.stored.history
  grows_from_first node node_after (entry ∷ entries) life (suc many) =
      begins_through node.stored.history life.0.stored.history (node_at same n i life.0 entries node_after life.2 many).stored.history
      (deed_grows entry.deed node life.0 entry.outputs life.1) (grows_from_first life.0 node_after entries life.2 many)

  grows_on : (node node_after : Node V) (entries : List (Entry V)) (life : IsLifeByEntries same n i node entries node_after) (many more : ℕ) → many ≤ more →
      IsBeginning (node_at same n i node entries node_after life many).stored.history (node_at same n i node entries node_after life more).stored.history
  grows_on node node_after [] life many more later = begins_itself node.stored.history
  grows_on node node_after (entry ∷ entries) life zero more later = grows_from_first node node_after (entry ∷ entries) life more
  grows_on node node_after (entry ∷ entries) life (suc many) zero later = absurd (omega (arith, later))
  grows_on node node_after (entry ∷ entries) life (suc many) (suc more) later = grows_on life.0 node_after entries life.2 many more (omega (arith, later))

  -- at the end too
  pub grows_to_last : (node node_after : Node V) (entries : List (Entry V)) (life : IsLifeByEntries same n i node entries node_after) (many : ℕ) →
      IsBeginning (node_at same n i node entries node_after life many).stored.history node_after.stored.history
  grows_to_last node node_after [] life many = subst (λ (x : Node V). IsBeginning node.stored.history x.stored.history) (sym life) (begins_itself node.stored.history)
  grows_to_last node node_after (entry ∷ entries) life zero =
      begins_through node.stored.history life.0.stored.history node_after.stored.history
      (deed_grows entry.deed node life.0 entry.outputs life.1) (from_last life.0 entries life.2)
    where
      from_last : (x : Node V) (es : List (Entry V)) (l : IsLifeByEntries same n i x es node_after) → IsBeginning x.stored.history node_after.stored.history
      from_last x [] l = subst (λ (y : Node V). IsBeginning x.stored.history y.stored.history) (sym l) (begins_itself x.stored.history)
      from_last x (e ∷ es) l =
          begins_through x.stored.history l.0.stored.history node_after.stored.history (deed_grows e.deed x l.0 e.outputs l.1) (from_last l.0 es l.2)
  grows_to_last node node_after (entry ∷ entries) life (suc many) = grows_to_last life.0 node_after entries life.2 many

pub lists_grow : (V : Type 0) → ListsGrow V
lists_grow V = λ same n i node node_after entries life many more later. grows_on same n i node node_after entries life many more later
