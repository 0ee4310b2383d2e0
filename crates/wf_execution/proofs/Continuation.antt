-- One more start, step or end of a process leads from a farm to a farm.
use Rattle.std.proofs.Common.{◌≡◌, ◌≢◌, ℕ, ◌<◌, List, [], ◌∷◌, ◌++◌, Option, Some, None, refl, sym, ap, subst, ◌∙◌, inl, inr, append-nil, append_assoc, eq-eqb, ne_eqb}
use Rattle.std.proofs.lemmas.Bool.{cases_eq}
use Rattle.wf_codec.specs.declared.message.Message.{Message}
use Rattle.wf_node.specs.Node.{Node}
use Rattle.wf_tape.specs.declared.tape.Tape.{Ghosts as Tape}
use Rattle.wf_execution.specs.Run.{Act, Run, last, RunEnd, Between, Within, Failed, HasLeft, IsAct, IsOpenedFrom}
use Rattle.wf_execution.specs.RunTheorems.{done_more}
use Rattle.wf_execution.specs.Execution.{Ended, Execution, AreRuns, IsExecution, Item, items_of, items_by, items_at, items_in, IsOneOf, AreInTurn, IsFarm}
use Rattle.wf_execution.specs.Theorems.{outputs_in}
use Rattle.wf_execution.specs.Continuation.{with_execution, left_by, left, NothingIsAFarm, StartGoesOn, StepGoesOn, IsCutBy, EndGoesOn}
use Rattle.wf_execution.proofs.Farms.{own_item, other_item}

-- ---- items at the end

more_of : (i : ℕ) (items more : List Item) → items_of i (items ++ more) ≡ items_of i items ++ items_of i more
unfolding items_of
more_of i [] more = refl
more_of i (item ∷ items) more = elim (cases_eq item.process i) [
  | inl own ↦ own_item i item (items ++ more) own ∙ ap (λ xs. item ∷ xs) (more_of i items more) ∙ ap (λ xs. xs ++ items_of i more) (sym (own_item i item items own))
  | inr other ↦ other_item i item (items ++ more) other ∙ more_of i items more ∙ ap (λ xs. xs ++ items_of i more) (sym (other_item i item items other))
]

own_one : (i : ℕ) (item : Item) → item.process ≡ i → items_of i (item ∷ []) ≡ item ∷ []
unfolding items_of
own_one i item own = own_item i item [] own

other_one : (i : ℕ) (item : Item) → item.process ≢ i → items_of i (item ∷ []) ≡ []
unfolding items_of
other_one i item other = other_item i item [] other

turn_more : (n : ℕ) (sent : List Message) (items : List Item) (item : Item) → AreInTurn n sent items → item.process < n → IsOneOf (sent ++ outputs_in items) item.takes → AreInTurn n sent (items ++ item ∷ [])
unfolding outputs_in
turn_more n sent [] item are is_member received = (is_member, subst (λ ms. IsOneOf ms item.takes) (append-nil sent) received, tt)
turn_more n sent (first ∷ items) item are is_member received =
    (are.0, are.1, turn_more n (sent ++ first.outputs) items item are.2 is_member (subst (λ ms. IsOneOf ms item.takes) (sym (append_assoc sent first.outputs (outputs_in items))) received))

module _ {T : Type 0} where
  by_more : (i : ℕ) (acts : List (Act T)) (act : Act T) → items_by i (acts ++ act ∷ []) ≡ items_by i acts ++ record { process = i; takes = act.input; outputs = act.outputs } ∷ []
  unfolding items_by
  by_more i [] act = refl
  by_more i (first ∷ acts) act = ap (λ xs. record { process = i; takes = first.input; outputs = first.outputs } ∷ xs) (by_more i acts act)

  -- the current run has one more step
  in_more : (i : ℕ) (ended : List (Ended T)) (run : Run T) (act : Act T) →
      items_in i ended (Some (record { first = run.first; acts = run.acts ++ act ∷ [] })) ≡ items_in i ended (Some run) ++ record { process = i; takes = act.input; outputs = act.outputs } ∷ []
  unfolding items_in
  in_more i [] run act = by_more i run.acts act
  in_more i (first ∷ ended) run act =
      ap (λ xs. items_by i first.run.acts ++ (items_at i first.end ++ xs)) (in_more i ended run act)
      ∙ ap (λ xs. items_by i first.run.acts ++ xs) (sym (append_assoc (items_at i first.end) (items_in i ended (Some run)) (record { process = i; takes = act.input; outputs = act.outputs } ∷ [])))
      ∙ sym (append_assoc (items_by i first.run.acts) (items_at i first.end ++ items_in i ended (Some run)) (record { process = i; takes = act.input; outputs = act.outputs } ∷ []))

  -- a run has started that has done nothing
  in_started : (i : ℕ) (ended : List (Ended T)) (node : Node T) → items_in i ended (Some (record { first = node; acts = [] })) ≡ items_in i ended None
  unfolding items_in items_by
  in_started i [] node = refl
  in_started i (first ∷ ended) node = ap (λ xs. items_by i first.run.acts ++ (items_at i first.end ++ xs)) (in_started i ended node)

  -- the current run has ended
  in_ended : (i : ℕ) (ended : List (Ended T)) (run : Run T) (end : RunEnd) (bytes : List ℕ) →
      items_in i (ended ++ record { run = run; end = end; left = bytes } ∷ []) None ≡ items_in i ended (Some run) ++ items_at i end
  unfolding items_in
  in_ended i [] run end bytes = ap (λ xs. items_by i run.acts ++ xs) (append-nil (items_at i end))
  in_ended i (first ∷ ended) run end bytes =
      ap (λ xs. items_by i first.run.acts ++ (items_at i first.end ++ xs)) (in_ended i ended run end bytes)
      ∙ ap (λ xs. items_by i first.run.acts ++ xs) (sym (append_assoc (items_at i first.end) (items_in i ended (Some run)) (items_at i end)))
      ∙ sym (append_assoc (items_by i first.run.acts) (items_at i first.end ++ items_in i ended (Some run)) (items_at i end))

-- ---- runs at the end

module _ {T : Type 0} (tapes : Tape T) (n i : ℕ) where
  runs_more : (bytes : List ℕ) (ended : List (Ended T)) (run : Run T) (act : Act T) → AreRuns tapes n i bytes ended (Some run) → IsAct tapes (last run) act →
      AreRuns tapes n i bytes ended (Some (record { first = run.first; acts = run.acts ++ act ∷ [] }))
  runs_more bytes [] run act are is = record { opened = are.opened; done = done_more tapes run.first run.acts act are.done is }
  runs_more bytes (first ∷ ended) run act are is = (are.0, runs_more first.left ended run act are.1 is)

  runs_started : (bytes : List ℕ) (ended : List (Ended T)) (node : Node T) → AreRuns tapes n i bytes ended None → IsOpenedFrom n i (left_by bytes ended) node →
      AreRuns tapes n i bytes ended (Some (record { first = node; acts = [] }))
  unfolding left_by
  runs_started bytes [] node are opened = record { opened = opened; done = tt }
  runs_started bytes (first ∷ ended) node are opened = (are.0, runs_started first.left ended node are.1 opened)

  runs_ended : (bytes : List ℕ) (ended : List (Ended T)) (run : Run T) (end : RunEnd) (left_now : List ℕ) → AreRuns tapes n i bytes ended (Some run) → HasLeft run end left_now →
      AreRuns tapes n i bytes (ended ++ record { run = run; end = end; left = left_now } ∷ []) None
  runs_ended bytes [] run end left_now are left_it = (record { run = are; left = left_it }, tt)
  runs_ended bytes (first ∷ ended) run end left_now are left_it = (are.0, runs_ended first.left ended run end left_now are.1 left_it)

-- ---- one process of a farm

module _ {T : Type 0} (executions : ℕ → Execution T) (i : ℕ) (execution : Execution T) where
  pub own_execution : (j : ℕ) → j ≡ i → with_execution executions i execution j ≡ execution
  unfolding with_execution
  own_execution j same = rw (eq-eqb j i same) refl

  pub other_execution : (j : ℕ) → j ≢ i → with_execution executions i execution j ≡ executions j
  unfolding with_execution
  other_execution j differs = rw (ne_eqb j i differs) refl

  -- what holds of the new one at i, and of the old ones elsewhere
  at_each : (P : ℕ → Execution T → Type 0) (j : ℕ) → P i execution → (j ≢ i → P j (executions j)) → P j (with_execution executions i execution j)
  at_each P j here elsewhere = elim (cases_eq j i) [
    | inl same ↦ subst (P j) (sym (own_execution j same)) (subst (λ k. P k execution) (sym same) here)
    | inr differs ↦ subst (P j) (sym (other_execution j differs)) (elsewhere differs)
  ]

module _ {T : Type 0} (tapes : Tape T) (n i : ℕ) (executions : ℕ → Execution T) (items : List Item) (farm : IsFarm tapes n executions items) where
  -- the execution of one process goes on by these items
  goes_on : (execution : Execution T) (more : List Item) → IsExecution tapes n i execution → items_of i (items ++ more) ≡ items_in i execution.ended execution.now →
      ((j : ℕ) → j ≢ i → items_of j more ≡ []) → AreInTurn n [] (items ++ more) → IsFarm tapes n (with_execution executions i execution) (items ++ more)
  goes_on execution more is own others turn = record {
    each = λ j less. at_each executions i execution (λ k c. IsExecution tapes n k c) j is (λ differs. farm.each j less);
    own = λ j less. at_each executions i execution (λ k c. items_of k (items ++ more) ≡ items_in k c.ended c.now) j own
        (λ differs. more_of j items more ∙ ap (λ xs. items_of j items ++ xs) (others j differs) ∙ append-nil (items_of j items) ∙ farm.own j less);
    in_turn = turn;
  }

  abbrev ended_now : List (Ended T)
  ended_now = (executions i).ended

  -- the items of one more
  item_own : i < n → (now : Option (Run T)) → (executions i).now ≡ now → items_of i items ≡ items_in i ended_now now
  item_own less now is = farm.own i less ∙ ap (items_in i ended_now) is

  runs_own : i < n → (now : Option (Run T)) → (executions i).now ≡ now → AreRuns tapes n i [] ended_now now
  runs_own less now is = subst (AreRuns tapes n i [] ended_now) is (farm.each i less)

  -- nothing is sent
  quiet_own : (j : ℕ) → items_of j [] ≡ []
  unfolding items_of
  quiet_own j = refl

  goes_quietly : (execution : Execution T) → i < n → IsExecution tapes n i execution → items_of i items ≡ items_in i execution.ended execution.now → IsFarm tapes n (with_execution executions i execution) items
  goes_quietly execution less is own =
      subst (IsFarm tapes n (with_execution executions i execution)) (append-nil items)
      (goes_on execution [] is (ap (items_of i) (append-nil items) ∙ own) (λ j differs. quiet_own j) (subst (AreInTurn n []) (sym (append-nil items)) farm.in_turn))

  one_item : (execution : Execution T) (item : Item) → item.process ≡ i → i < n → IsExecution tapes n i execution → IsOneOf (outputs_in items) item.takes → items_of i items ++ item ∷ [] ≡ items_in i execution.ended execution.now →
      IsFarm tapes n (with_execution executions i execution) (items ++ item ∷ [])
  one_item execution item at less is received own =
      goes_on execution (item ∷ []) is (more_of i items (item ∷ []) ∙ ap (λ xs. items_of i items ++ xs) (own_one i item at) ∙ own) (λ j differs. other_one j item (λ e. differs (sym e ∙ at)))
      (turn_more n [] items item farm.in_turn (subst (λ k. k < n) (sym at) less) received)

  starts : (node : Node T) → i < n → (executions i).now ≡ None → IsOpenedFrom n i (left (executions i)) node →
      IsFarm tapes n (with_execution executions i (record { ended = ended_now; now = Some (record { first = node; acts = [] }) })) items
  starts node less none opened =
      goes_quietly (record { ended = ended_now; now = Some (record { first = node; acts = [] }) }) less (runs_started tapes n i [] ended_now node (runs_own less None none) opened)
      (item_own less None none ∙ sym (in_started i ended_now node))

  steps : (run : Run T) (act : Act T) → i < n → (executions i).now ≡ Some run → IsAct tapes (last run) act → IsOneOf (outputs_in items) act.input →
      IsFarm tapes n (with_execution executions i (record { ended = ended_now; now = Some (record { first = run.first; acts = run.acts ++ act ∷ [] }) })) (items ++ record { process = i; takes = act.input; outputs = act.outputs } ∷ [])
  steps run act less now is received =
      one_item (record { ended = ended_now; now = Some (record { first = run.first; acts = run.acts ++ act ∷ [] }) }) (record { process = i; takes = act.input; outputs = act.outputs }) refl less
      (runs_more tapes n i [] ended_now run act (runs_own less (Some run) now) is) received
      (ap (λ xs. xs ++ record { process = i; takes = act.input; outputs = act.outputs } ∷ []) (item_own less (Some run) now) ∙ sym (in_more i ended_now run act))

  abbrev ended_by : Run T → RunEnd → List ℕ → Execution T
  ended_by run end bytes = record { ended = ended_now ++ record { run = run; end = end; left = bytes } ∷ []; now = None }

  ends_quietly : (run : Run T) (end : RunEnd) (bytes : List ℕ) → i < n → (executions i).now ≡ Some run → HasLeft run end bytes → items_at i end ≡ [] → IsFarm tapes n (with_execution executions i (ended_by run end bytes)) items
  ends_quietly run end bytes less now left_it quiet =
      goes_quietly (ended_by run end bytes) less (runs_ended tapes n i [] ended_now run end bytes (runs_own less (Some run) now) left_it)
      (item_own less (Some run) now ∙ sym (append-nil (items_in i ended_now (Some run))) ∙ ap (λ xs. items_in i ended_now (Some run) ++ xs) (sym quiet) ∙ sym (in_ended i ended_now run end bytes))

  ends : (run : Run T) (end : RunEnd) (bytes : List ℕ) → i < n → (executions i).now ≡ Some run → HasLeft run end bytes → IsCutBy items end →
      IsFarm tapes n (with_execution executions i (ended_by run end bytes)) (items ++ items_at i end)
  ends run Between bytes less now left_it cut = subst (IsFarm tapes n (with_execution executions i (ended_by run Between bytes))) (sym (append-nil items)) (ends_quietly run Between bytes less now left_it refl)
  ends run (Within input) bytes less now left_it cut =
      one_item (ended_by run (Within input) bytes) (record { process = i; takes = input; outputs = [] }) refl less
      (runs_ended tapes n i [] ended_now run (Within input) bytes (runs_own less (Some run) now) left_it) cut
      (ap (λ xs. xs ++ record { process = i; takes = input; outputs = [] } ∷ []) (item_own less (Some run) now) ∙ sym (in_ended i ended_now run (Within input) bytes))
  ends run (Failed input) bytes less now left_it cut = subst (IsFarm tapes n (with_execution executions i (ended_by run (Failed input) bytes))) (sym (append-nil items)) (ends_quietly run (Failed input) bytes less now left_it refl)

-- ---- the theorems

nothing_own : (T : Type 0) (i : ℕ) → items_of i [] ≡ items_in {T = T} i [] None
unfolding items_of items_in
nothing_own T i = refl

pub nothing_is_a_farm : {T : Type 0} (tapes : Tape T) → NothingIsAFarm tapes
nothing_is_a_farm {T} tapes = λ n. record { each = λ i less. tt; own = λ i less. nothing_own T i; in_turn = tt }

pub start_goes_on : {T : Type 0} (tapes : Tape T) → StartGoesOn tapes
start_goes_on tapes = λ n i executions items node farm less none opened. starts tapes n i executions items farm node less none opened

pub step_goes_on : {T : Type 0} (tapes : Tape T) → StepGoesOn tapes
step_goes_on tapes = λ n i executions items run act farm less now is received. steps tapes n i executions items farm run act less now is received

pub end_goes_on : {T : Type 0} (tapes : Tape T) → EndGoesOn tapes
end_goes_on tapes = λ n i executions items run end bytes farm less now left_it cut. ends tapes n i executions items farm run end bytes less now left_it cut
