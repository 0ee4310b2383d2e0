-- The events of nodes, each of which may happen to its node, are a timeline where each step hears
-- what was sent.
use Rattle.std.proofs.Common.{◌≡◌, ℕ, zero, suc, ◌<◌, ◌≤◌, ◌==◌, Bool, true, false, List, [], ◌∷◌, ◌++◌, take, slice_get, Some, refl, sym, ap, subst, ◌∙◌, inl, inr, arith, append-nil, append_assoc, eq-eqb, ne_eqb}
use Rattle.std.proofs.lemmas.Bool.{cases_eq}
use Rattle.std.proofs.lemmas.Option.{none-some}
use Rattle.std.specs.Prelude.{if◌then◌else◌}
use Rattle.wf_actor.specs.Farm.{AreMembers, Step, items, steps_of}
use Rattle.wf_actor.specs.declared.actor.Origin.{Origin}
use Rattle.wf_execution.specs.Execution.{AreInTurn, IsOneOf}
use Rattle.wf_execution.specs.Run.{Act, Between, RunEnd, Failed, HasLeft, IsAct, IsOpenedFrom, Run, Within, last, last_of}
use Rattle.wf_codec.specs.declared.message.Message.{Message}
use Rattle.wf_node.specs.Node.{Node}
use Rattle.wf_rejoin_guard.specs.Learned.{AreLooselyPossible, IsGone, IsLooselyPossible}
use Rattle.wf_replacement.specs.Timeline.{Acts, Down, Ends, IsCutInputSent, Loses, Lost, Opens, ProcessEvent, ProcessState, Rejoins, Up, node_in, process_of, returned_by, state_after, states_from, states_with}
use Rattle.wf_tape.specs.declared.tape.Tape.{Ghosts as Tape}
use Rattle.wf_histories.specs.Events.{AreEventsOf, TracedEvent, events_of, step_by, steps_in, untraced}
use Rattle.wf_histories.specs.Nodes.{cut_step}
use Rattle.wf_histories.proofs.Advance.{AreStepsOf, own_all, own_none, steps_both}

-- ---- steps of one process

of_this : (i p : ℕ) (steps : List Step) → p ≡ i → AreStepsOf p steps → steps_of i steps ≡ steps
of_this i p steps same are = own_all i steps (subst (λ j. AreStepsOf j steps) same are)

of_members : (n p : ℕ) (steps more : List Step) → p < n → AreStepsOf p steps → AreMembers n more → AreMembers n (steps ++ more)
unfolding AreMembers
of_members n p [] more less are members = members
of_members n p (step ∷ steps) more less are members = (subst (λ k. k < n) (sym are.0) less, of_members n p steps more less are.1 members)

still_turn : (n : ℕ) (sent : List Message) (rest : List Step) → AreInTurn n sent (items rest) → AreInTurn n (sent ++ []) (items rest)
still_turn n sent rest turn = subst (λ (ms : List Message). AreInTurn n ms (items rest)) (sym (append-nil sent)) turn

cut_of : (i : ℕ) (end : RunEnd) (origin : Origin) → AreStepsOf i (cut_step i end origin)
cut_of i Between origin = tt
cut_of i (Within input) origin = (refl, tt)
cut_of i (Failed input) origin = tt

end_turn : (n : ℕ) (sent : List Message) (i : ℕ) (end : RunEnd) (origin : Origin) (rest : List Step) → AreInTurn n sent (items (cut_step i end origin ++ rest)) →
    IsCutInputSent sent end × AreInTurn n (sent ++ []) (items rest)
end_turn n sent i Between origin rest turn = (tt, still_turn n sent rest turn)
end_turn n sent i (Within input) origin rest turn = (turn.1, turn.2)
end_turn n sent i (Failed input) origin rest turn = (tt, still_turn n sent rest turn)

-- ---- the steps of events

module _ {T : Type 0} where
  pub steps_in_both : (first more : List (TracedEvent T)) → steps_in (first ++ more) ≡ steps_in first ++ steps_in more
  unfolding steps_in
  steps_in_both [] more = refl
  steps_in_both (e ∷ first) more =
      ap (λ steps. step_by e.event e.origin ++ steps) (steps_in_both first more) ∙ sym (append_assoc (step_by e.event e.origin) (steps_in first) (steps_in more))

  -- a step is of the process whose event it is
  step_of : (event : ProcessEvent T) (origin : Origin) → AreStepsOf (process_of event) (step_by event origin)
  step_of (Opens i node) origin = tt
  step_of (Acts i act) origin = (refl, tt)
  step_of (Ends i end left) origin = cut_of i end origin
  step_of (Loses i) origin = tt
  step_of (Rejoins i bytes) origin = tt

  pub steps_of_in : (i : ℕ) (traced : List (TracedEvent T)) → steps_of i (steps_in traced) ≡ steps_in (events_of i traced)
  unfolding steps_in events_of steps_of
  steps_of_in i [] = refl
  steps_of_in i (e ∷ traced) =
      let p = process_of e.event in
      let step = step_by e.event e.origin in
      let both = steps_both i step (steps_in traced) in
      elim (cases_eq i p) [
        | inl same ↦ rw (eq-eqb i p same)
            (both ∙ ap (λ steps. steps ++ steps_of i (steps_in traced)) (of_this i p step (sym same) (step_of e.event e.origin)) ∙ ap (λ steps. step ++ steps) (steps_of_in i traced))
        | inr other ↦ rw (ne_eqb i p other)
            (both ∙ ap (λ steps. steps ++ steps_of i (steps_in traced)) (own_none p i step other (step_of e.event e.origin)) ∙ steps_of_in i traced)
      ]

  pub members_in : (n : ℕ) (traced : List (TracedEvent T)) → AreEventsOf n traced → AreMembers n (steps_in traced)
  unfolding AreMembers steps_in
  members_in n [] members = tt
  members_in n (e ∷ traced) members = of_members n (process_of e.event) (step_by e.event e.origin) (steps_in traced) members.0 (step_of e.event e.origin) (members_in n traced members.1)

  -- ---- what is sent for an event

  abbrev IsEventSent : List Message → ProcessEvent T → Type 0
  IsEventSent sent (Opens i node) = Unit {0}
  IsEventSent sent (Acts i act) = IsOneOf sent act.input
  IsEventSent sent (Ends i end left) = IsCutInputSent sent end
  IsEventSent sent (Loses i) = Unit {0}
  IsEventSent sent (Rejoins i bytes) = Unit {0}

  event_turn : (n : ℕ) (sent : List Message) (event : ProcessEvent T) (origin : Origin) (rest : List Step) → AreInTurn n sent (items (step_by event origin ++ rest)) →
      IsEventSent sent event × AreInTurn n (sent ++ returned_by event) (items rest)
  event_turn n sent (Opens i node) origin rest turn = (tt, still_turn n sent rest turn)
  event_turn n sent (Acts i act) origin rest turn = (turn.1, turn.2)
  event_turn n sent (Ends i end left) origin rest turn = end_turn n sent i end origin rest turn
  event_turn n sent (Loses i) origin rest turn = (tt, still_turn n sent rest turn)
  event_turn n sent (Rejoins i bytes) origin rest turn = (tt, still_turn n sent rest turn)

  -- ---- what a process held

  abbrev value_by : ProcessEvent T → List (Node T)
  value_by (Opens i node) = node ∷ []
  value_by (Acts i act) = act.after ∷ []
  value_by (Ends i end left) = []
  value_by (Loses i) = []
  value_by (Rejoins i bytes) = []

  unfoldable pub values_by : List (TracedEvent T) → List (Node T)
  values_by [] = []
  values_by (e ∷ traced) = value_by e.event ++ values_by traced

  pub values_both : (first more : List (TracedEvent T)) → values_by (first ++ more) ≡ values_by first ++ values_by more
  unfolding values_by
  values_both [] more = refl
  values_both (e ∷ first) more = ap (λ vs. value_by e.event ++ vs) (values_both first more) ∙ sym (append_assoc (value_by e.event) (values_by first) (values_by more))

  -- how many events more it takes until the m-th value, after one event that has these
  abbrev after : Bool → List (Node T) → ℕ → (ℕ → ℕ) → ℕ
  after false values m later = later m
  after true [] m later = later m
  after true (value ∷ values) zero later = 0
  after true (value ∷ values) (suc m) later = later m

  -- the moment at which process i holds the m-th of its values
  unfoldable pub moment_of : ℕ → List (TracedEvent T) → ℕ → ℕ
  moment_of i [] m = 0
  moment_of i (e ∷ traced) m = suc (after (i == process_of e.event) (value_by e.event) m (moment_of i traced))

  after_grows : (b : Bool) (values : List (Node T)) (m k : ℕ) (later : ℕ → ℕ) → m ≤ k → ((a c : ℕ) → a ≤ c → later a ≤ later c) → after b values m later ≤ after b values k later
  after_grows false values m k later less grows = grows m k less
  after_grows true [] m k later less grows = grows m k less
  after_grows true (value ∷ values) zero k later less grows = omega arith
  after_grows true (value ∷ values) (suc m) zero later less grows = absurd (omega (arith, less))
  after_grows true (value ∷ values) (suc m) (suc k) later less grows = grows m k (omega (arith, less))

  pub moments_grow : (i : ℕ) (traced : List (TracedEvent T)) (m k : ℕ) → m ≤ k → moment_of i traced m ≤ moment_of i traced k
  unfolding moment_of
  moments_grow i [] m k less = omega arith
  moments_grow i (e ∷ traced) m k less =
      let more = after_grows (i == process_of e.event) (value_by e.event) m k (moment_of i traced) less (λ a c order. moments_grow i traced a c order) in
      omega (arith, more)

  last_with : (node : Node T) (acts : List (Act T)) (act : Act T) → last_of node (acts ++ act ∷ []) ≡ act.after
  unfolding last_of
  last_with node [] act = refl
  last_with node (first ∷ acts) act = last_with first.after acts act

  pub acted : (run : Run T) (act : Act T) → last (record { first = run.first; acts = run.acts ++ act ∷ [] }) ≡ act.after
  acted run act = last_with run.first run.acts act

  -- ---- the state of a process

  abbrev pub state_by : ProcessState T → List (TracedEvent T) → ProcessState T
  state_by state [] = state
  state_by state (e ∷ traced) = state_by (state_after state e.event) traced

  pub state_both : (state : ProcessState T) (first more : List (TracedEvent T)) → state_by state (first ++ more) ≡ state_by (state_by state first) more
  state_both state [] more = refl
  state_both state (e ∷ first) more = state_both (state_after state e.event) first more

  abbrev pub IsThere : ProcessState T → Type 0
  IsThere (Down bytes) = Unit {0}
  IsThere (Up run) = Unit {0}
  IsThere Lost = ⊥

  -- ---- what may happen to a process, whatever was sent

  module _ (tapes : Tape T) (n : ℕ) where
    abbrev MayOpen : ProcessState T → ℕ → Node T → Type 0
    MayOpen (Down bytes) i node = IsOpenedFrom n i bytes node
    MayOpen (Up run) i node = ⊥
    MayOpen Lost i node = ⊥

    abbrev MayAct : ProcessState T → Act T → Type 0
    MayAct (Down bytes) act = ⊥
    MayAct (Up run) act = IsAct tapes (last run) act
    MayAct Lost act = ⊥

    abbrev MayEnd : ProcessState T → RunEnd → List ℕ → Type 0
    MayEnd (Down bytes) end left = ⊥
    MayEnd (Up run) end left = HasLeft run end left
    MayEnd Lost end left = ⊥

    abbrev pub MayHappen : ProcessState T → ProcessEvent T → Type 0
    MayHappen state (Opens i node) = MayOpen state i node
    MayHappen state (Acts i act) = MayAct state act
    MayHappen state (Ends i end left) = MayEnd state end left
    MayHappen state (Loses i) = IsThere state
    MayHappen state (Rejoins i bytes) = IsGone state

    abbrev pub AllMayHappen : ProcessState T → List (TracedEvent T) → Type 0
    AllMayHappen state [] = Unit {0}
    AllMayHappen state (e ∷ traced) = MayHappen state e.event × AllMayHappen (state_after state e.event) traced

    pub happen_both : (state : ProcessState T) (first more : List (TracedEvent T)) → AllMayHappen state first → AllMayHappen (state_by state first) more → AllMayHappen state (first ++ more)
    happen_both state [] more happen later = later
    happen_both state (e ∷ first) more happen later = (happen.0, happen_both (state_after state e.event) first more happen.1 later)

    -- ---- a timeline

    possible_so : (sent : List Message) (state : ProcessState T) (event : ProcessEvent T) → MayHappen state event → IsEventSent sent event → IsLooselyPossible tapes n sent state event
    possible_so sent (Down bytes) (Opens i node) may is = may
    possible_so sent (Up run) (Opens i node) may is = absurd may
    possible_so sent Lost (Opens i node) may is = absurd may
    possible_so sent (Down bytes) (Acts i act) may is = absurd may
    possible_so sent (Up run) (Acts i act) may is = (may, is)
    possible_so sent Lost (Acts i act) may is = absurd may
    possible_so sent (Down bytes) (Ends i end left) may is = absurd may
    possible_so sent (Up run) (Ends i end left) may is = (may, is)
    possible_so sent Lost (Ends i end left) may is = absurd may
    possible_so sent (Down bytes) (Loses i) may is = tt
    possible_so sent (Up run) (Loses i) may is = tt
    possible_so sent Lost (Loses i) may is = absurd may
    possible_so sent state (Rejoins i bytes) may is = may

    own_first : (b : Bool) → b ≡ true → (state : ProcessState T) (e : TracedEvent T) (rest : List (TracedEvent T)) → AllMayHappen state (if b then e ∷ rest else rest) → MayHappen state e.event
    own_first b is state e rest own = (subst (λ c. AllMayHappen state (if c then e ∷ rest else rest)) is own).0

    own_rest : (b : Bool) (state : ProcessState T) (e : TracedEvent T) (rest : List (TracedEvent T)) → AllMayHappen state (if b then e ∷ rest else rest) →
        AllMayHappen (if b then state_after state e.event else state) rest
    own_rest true state e rest own = own.1
    own_rest false state e rest own = own

    pub timeline_from : (sent : List Message) (states : ℕ → ProcessState T) (traced : List (TracedEvent T)) → AreEventsOf n traced → AreInTurn n sent (items (steps_in traced)) →
        ((i : ℕ) → i < n → AllMayHappen (states i) (events_of i traced)) → AreLooselyPossible tapes n sent states (untraced traced)
    unfolding events_of steps_in states_with
    timeline_from sent states [] members turn own = tt
    timeline_from sent states (e ∷ traced) members turn own =
        let p = process_of e.event in
        let so = event_turn n sent e.event e.origin (steps_in traced) turn in (
          members.0,
          possible_so sent (states p) e.event (own_first (p == p) (eq-eqb p p refl) (states p) e (events_of p traced) (own p members.0)) so.0,
          timeline_from (sent ++ returned_by e.event) (states_with states e.event) traced members.1 so.1
              (λ i less. own_rest (i == p) (states i) e (events_of i traced) (own i less)),
        )

    -- ---- what a process holds in it

    node_acted : (state : ProcessState T) (i : ℕ) (act : Act T) → MayAct state act → node_in (state_after state (Acts i act)) ≡ Some act.after
    node_acted (Down bytes) i act may = absurd may
    node_acted (Up run) i act may = ap Some (acted run act)
    node_acted Lost i act may = absurd may

    -- a process holds at its m-th moment the m-th of these values, from this state on
    abbrev HoldsEach : ℕ → (ℕ → ProcessState T) → List (TracedEvent T) → Type 0
    HoldsEach i states traced = (m : ℕ) (node : Node T) → AllMayHappen (states i) (events_of i traced) → slice_get (values_by (events_of i traced)) m ≡ Some node →
        node_in (states_from states (take (moment_of i traced m) (untraced traced)) i) ≡ Some node

    by_event : (i : ℕ) (state : ProcessState T) (states : ℕ → ProcessState T) (event : ProcessEvent T) (rest : List (TracedEvent T)) (m : ℕ) (node : Node T) → states i ≡ state_after state event →
        MayHappen state event → AllMayHappen (state_after state event) (events_of i rest) → slice_get (value_by event ++ values_by (events_of i rest)) m ≡ Some node → HoldsEach i states rest →
        node_in (states_from states (take (after true (value_by event) m (moment_of i rest)) (untraced rest)) i) ≡ Some node
    unfolding states_from last_of
    by_event i state states (Opens j first) rest zero node is may own at holds = ap node_in is ∙ at
    by_event i state states (Opens j first) rest (suc m) node is may own at holds = holds m node (subst (λ (s : ProcessState T). AllMayHappen s (events_of i rest)) (sym is) own) at
    by_event i state states (Acts j act) rest zero node is may own at holds = ap node_in is ∙ node_acted state j act may ∙ at
    by_event i state states (Acts j act) rest (suc m) node is may own at holds = holds m node (subst (λ (s : ProcessState T). AllMayHappen s (events_of i rest)) (sym is) own) at
    by_event i state states (Ends j end left) rest m node is may own at holds = holds m node (subst (λ (s : ProcessState T). AllMayHappen s (events_of i rest)) (sym is) own) at
    by_event i state states (Loses j) rest m node is may own at holds = holds m node (subst (λ (s : ProcessState T). AllMayHappen s (events_of i rest)) (sym is) own) at
    by_event i state states (Rejoins j bytes) rest m node is may own at holds = holds m node (subst (λ (s : ProcessState T). AllMayHappen s (events_of i rest)) (sym is) own) at

    one_event : (b : Bool) (i : ℕ) (state : ProcessState T) (states : ℕ → ProcessState T) (e : TracedEvent T) (rest : List (TracedEvent T)) (m : ℕ) (node : Node T) →
        states i ≡ (if b then state_after state e.event else state) → AllMayHappen state (if b then e ∷ events_of i rest else events_of i rest) →
        slice_get (values_by (if b then e ∷ events_of i rest else events_of i rest)) m ≡ Some node → HoldsEach i states rest →
        node_in (states_from states (take (after b (value_by e.event) m (moment_of i rest)) (untraced rest)) i) ≡ Some node
    unfolding values_by
    one_event true i state states e rest m node is own at holds = by_event i state states e.event rest m node is own.0 own.1 at holds
    one_event false i state states e rest m node is own at holds = holds m node (subst (λ (s : ProcessState T). AllMayHappen s (events_of i rest)) (sym is) own) at

    pub holds_each : (i : ℕ) (states : ℕ → ProcessState T) (traced : List (TracedEvent T)) → HoldsEach i states traced
    unfolding events_of values_by moment_of states_from states_with
    holds_each i states [] m node own at = absurd (none-some node at)
    holds_each i states (e ∷ traced) m node own at =
        one_event (i == process_of e.event) i (states i) (states_with states e.event) e traced m node refl own at (holds_each i (states_with states e.event) traced)
