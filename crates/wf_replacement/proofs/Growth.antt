-- What a process has published grows with each event, where the nodes of the model grow.
use Rattle.std.proofs.Common.{◌≡◌, ℕ, zero, suc, ◌+◌, ◌<◌, ◌≤◌, List, [], ◌∷◌, ◌++◌, take, slice_get, Option, Some, None, refl, sym, ap, subst, ◌∙◌, inl, inr, arith}
use Rattle.std.proofs.lemmas.Bool.{cases_eq, cases_lt}
use Rattle.std.proofs.lemmas.Option.{none-some, same_Some}
use Rattle.wf_execution.specs.Run.{Run, last_of, last}
use Rattle.wf_execution.specs.RunTheorems.{last_more}
use Rattle.wf_codec.specs.declared.message.Message.{Message}
use Rattle.wf_def.specs.Definition.{Definition}
use Rattle.wf_delivery.specs.Delivery.{AnyPart, ShowsNode}
use Rattle.wf_model.specs.DurableState.{DurableState}
use Rattle.wf_model.specs.World as world
use Rattle.wf_node.specs.Input.{view}
use Rattle.wf_node.specs.Node.{Node}
use Rattle.wf_safety.specs.Theorems.{IsBeginning}
use Rattle.wf_tape.specs.declared.tape.Tape.{Ghosts as Tape}
use Rattle.wf_replacement.specs.Timeline.{ProcessEvent, Opens, Acts, Ends, Loses, Rejoins, process_of, returned_by, ProcessState, Down, Up, Lost, state_after, node_in, IsPossible, states_with, states_from, ArePossible, unstarted_process, IsTimeline, state_at, node_at}
use Rattle.wf_replacement.proofs.Courses.{state_own, state_other}
use Rattle.wf_replacement.proofs.Deeds.{takes_begins}
use Rattle.wf_replacement.proofs.Guard.{running_stored, node_begins}
use Rattle.wf_replacement.proofs.Moves.{IsSeen}
use Rattle.wf_replacement.proofs.Prefixes.{begins_itself, begins_through}

-- what a process shows of what it has published, which may be less than its node of the model has,
-- if its tape failed
abbrev pub shown_list : {T : Type 0} → ProcessState T → world.Node Definition → List Definition
shown_list (Down bytes) x = x.stored.history
shown_list (Up run) x = (last run).parts.history
shown_list Lost x = x.stored.history

pub node_list : {T : Type 0} (state : ProcessState T) (x : world.Node Definition) (node : Node T) → node_in state ≡ Some node → shown_list state x ≡ node.parts.history
node_list (Down bytes) x node at = absurd (none-some node at)
node_list {T} (Up run) x node at = ap (λ (m : Node T). m.parts.history) (same_Some (last run) node at)
node_list Lost x node at = absurd (none-some node at)

-- ---- one event

module _ {T : Type 0} (tapes : Tape T) (n i : ℕ) (sent : List Message) (x y : world.Node Definition) (grown : IsBeginning x.stored.history y.stored.history) where
  same_grows : (state : ProcessState T) → IsBeginning (shown_list state x) (shown_list state y)
  same_grows (Down bytes) = grown
  same_grows (Up run) = begins_itself (last run).parts.history
  same_grows Lost = grown

  -- the node of a run that ends
  end_grows : (run : Run T) → IsSeen i (Up run) x → IsBeginning (last run).parts.history y.stored.history
  end_grows run seen = begins_through (last run).parts.history x.stored.history y.stored.history (node_begins i (last run) x (seen (last run) refl)) grown

  event_grows : (state : ProcessState T) (event : ProcessEvent T) → IsPossible tapes n sent state event → IsSeen i state x → IsSeen i (state_after state event) y →
      IsBeginning (shown_list state x) (shown_list (state_after state event) y)
  unfolding last_of
  event_grows (Down bytes) (Opens p node) is seen next =
      subst (IsBeginning x.stored.history) (ap (λ (s : DurableState Definition). s.history) (running_stored i node y is.runs (next node refl))) grown
  event_grows (Down bytes) (Acts p act) is seen next = absurd is
  event_grows (Down bytes) (Ends p end left) is seen next = absurd is
  event_grows (Down bytes) (Loses p) is seen next = grown
  event_grows (Down bytes) (Rejoins p copy) is seen next = absurd is
  event_grows (Up run) (Opens p node) is seen next = absurd is
  event_grows (Up run) (Acts p act) is seen next =
      subst (λ (m : Node T). IsBeginning (last run).parts.history m.parts.history) (sym (last_more run.first run.acts act))
      (takes_begins tapes (last run) (view act.input) act.after act.outputs is.0.lost is.0.takes)
  event_grows (Up run) (Ends p end left) is seen next = end_grows run seen
  event_grows (Up run) (Loses p) is seen next = end_grows run seen
  event_grows (Up run) (Rejoins p copy) is seen next = absurd is
  event_grows Lost (Opens p node) is seen next = absurd is
  event_grows Lost (Acts p act) is seen next = absurd is
  event_grows Lost (Ends p end left) is seen next = absurd is
  event_grows Lost (Loses p) is seen next = absurd is
  event_grows Lost (Rejoins p copy) is seen next = grown

-- ---- the event at a moment

module _ {T : Type 0} where
  pub state_next : (events : List (ProcessEvent T)) (states : ℕ → ProcessState T) (k : ℕ) (event : ProcessEvent T) → slice_get events k ≡ Some event →
      states_from states (take (suc k) events) ≡ states_with (states_from states (take k events)) event
  unfolding states_from
  state_next [] states k event at = absurd (none-some event at)
  state_next (first ∷ events) states zero event at = ap (states_with states) (same_Some first event at)
  state_next (first ∷ events) states (suc k) event at = state_next events (states_with states first) k event at

  pub state_end : (events : List (ProcessEvent T)) (states : ℕ → ProcessState T) (k : ℕ) → slice_get events k ≡ None → states_from states (take (suc k) events) ≡ states_from states (take k events)
  unfolding states_from
  state_end [] states zero at = refl
  state_end [] states (suc k) at = refl
  state_end (first ∷ events) states zero at = absurd (none-some first (sym at))
  state_end (first ∷ events) states (suc k) at = state_end events (states_with states first) k at

  -- the event was possible then
  pub record WasPossible (tapes : Tape T) (n : ℕ) (states : ℕ → ProcessState T) (event : ProcessEvent T) : Type 0 where
    pub sent : List Message
    pub is_member : process_of event < n
    pub is : IsPossible tapes n sent (states (process_of event)) event

  pub was_possible : (tapes : Tape T) (n : ℕ) (sent : List Message) (states : ℕ → ProcessState T) (events : List (ProcessEvent T)) (k : ℕ) (event : ProcessEvent T) → ArePossible tapes n sent states events →
      slice_get events k ≡ Some event → WasPossible tapes n (states_from states (take k events)) event
  unfolding states_from
  was_possible tapes n sent states [] k event are at = absurd (none-some event at)
  was_possible tapes n sent states (first ∷ events) zero event are at = record {
    sent = sent;
    is_member = subst (λ (e : ProcessEvent T). process_of e < n) (same_Some first event at) are.0;
    is = subst (λ (e : ProcessEvent T). IsPossible tapes n sent (states (process_of e)) e) (same_Some first event at) are.1;
  }
  was_possible tapes n sent states (first ∷ events) (suc k) event are at = was_possible tapes n (sent ++ returned_by first) (states_with states first) events k event are.2 at

-- ---- from one moment to another

module _ {T : Type 0} (tapes : Tape T) (n : ℕ) (events : List (ProcessEvent T)) (timeline : IsTimeline tapes n events) (i : ℕ) (nodes : ℕ → world.Node Definition)
    (seen : (k : ℕ) (node : Node T) → node_at events k i ≡ Some node → ShowsNode (AnyPart i) node (nodes k))
    (grow : (k l : ℕ) → k ≤ l → IsBeginning (nodes k).stored.history (nodes l).stored.history) where
  abbrev list_at : ℕ → List Definition
  list_at k = shown_list (state_at events k i) (nodes k)

  once : (k : ℕ) → IsBeginning (nodes k).stored.history (nodes (suc k)).stored.history
  once k = grow k (suc k) (omega arith)

  still : (k : ℕ) → state_at events (suc k) i ≡ state_at events k i → IsBeginning (list_at k) (list_at (suc k))
  still k same = subst (λ s. IsBeginning (list_at k) (shown_list s (nodes (suc k)))) (sym same) (same_grows tapes n i [] (nodes k) (nodes (suc k)) (once k) (state_at events k i))

  own_event : (k : ℕ) (event : ProcessEvent T) → i ≡ process_of event → state_at events (suc k) i ≡ state_after (state_at events k i) event → WasPossible tapes n (state_at events k) event →
      IsBeginning (list_at k) (list_at (suc k))
  own_event k event own next was =
      subst (λ s. IsBeginning (list_at k) (shown_list s (nodes (suc k)))) (sym next)
      (event_grows tapes n i was.sent (nodes k) (nodes (suc k)) (once k) (state_at events k i) event (subst (λ j. IsPossible tapes n was.sent (state_at events k j) event) (sym own) was.is)
      (λ node at. seen k node at) (λ node at. seen (suc k) node (ap node_in next ∙ at)))

  by_event : (k : ℕ) (event : ProcessEvent T) → slice_get events k ≡ Some event → IsBeginning (list_at k) (list_at (suc k))
  by_event k event at =
      let next : state_at events (suc k) i ≡ states_with (state_at events k) event i = ap (λ (s : ℕ → ProcessState T). s i) (state_next events unstarted_process k event at) in
      elim (cases_eq i (process_of event)) [
        | inl own ↦ own_event k event own (next ∙ state_own (state_at events k) event i own) (was_possible tapes n [] unstarted_process events k event timeline at)
        | inr other ↦ still k (next ∙ state_other (state_at events k) event i other)
      ]

  by_found : (k : ℕ) (event : Option (ProcessEvent T)) → slice_get events k ≡ event → IsBeginning (list_at k) (list_at (suc k))
  by_found k None at = still k (ap (λ (s : ℕ → ProcessState T). s i) (state_end events unstarted_process k at))
  by_found k (Some event) at = by_event k event at

  pub lists_between : (l k : ℕ) → k ≤ l → IsBeginning (list_at k) (list_at l)
  lists_between zero k less =
      let same : k ≡ 0 = omega (arith, less) in
      subst (λ m. IsBeginning (list_at m) (list_at 0)) (sym same) (begins_itself (list_at 0))
  lists_between (suc l) k less = elim (cases_lt k (suc l)) [
    | inl lower ↦ begins_through (list_at k) (list_at l) (list_at (suc l)) (lists_between l k (omega (arith, lower))) (by_found l (slice_get events l) refl)
    | inr above ↦
        let same : k ≡ suc l = omega (arith, less, above) in
        subst (λ m. IsBeginning (list_at m) (list_at (suc l))) (sym same) (begins_itself (list_at (suc l)))
  ]
