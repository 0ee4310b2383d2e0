-- The runs of one process of a farm without a loss, as events.
use Rattle.std.proofs.Common.{◌≡◌, ℕ, List, [], ◌∷◌, ◌++◌, Option, Some, None, refl, sym, ap, subst, ◌∙◌, append-nil, append_assoc}
use Rattle.std.specs.Prelude.{⊤}
use Rattle.wf_execution.specs.Execution.{Ended, AreRuns, values_after, values_of, Item, items_by, items_at, items_in, IsOneOf}
use Rattle.wf_execution.specs.Run.{Act, Run, last_of, RunEnd, Between, Within, Failed, HasLeft, AreDone}
use Rattle.wf_execution.specs.RunTheorems.{last_more}
use Rattle.wf_codec.specs.declared.message.Message.{Message}
use Rattle.wf_node.specs.Node.{Node}
use Rattle.wf_tape.specs.declared.tape.Tape.{Ghosts as Tape}
use Rattle.wf_replacement.specs.Timeline.{ProcessEvent, Opens, Acts, Ends, Loses, Rejoins, process_of, ProcessState, Down, Up, state_after, node_in, IsPossible}
use Rattle.wf_replacement.specs.Theorems.{IsWithoutLoss}

-- ---- the events

own_acts : {T : Type 0} → ℕ → List (Act T) → List (ProcessEvent T)
own_acts i [] = []
own_acts i (act ∷ acts) = Acts i act ∷ own_acts i acts

pub own_events : {T : Type 0} → ℕ → List (Ended T) → Option (Run T) → List (ProcessEvent T)
own_events i [] None = []
own_events i [] (Some run) = Opens i run.first ∷ own_acts i run.acts
own_events i (ended ∷ later) now = Opens i ended.run.first ∷ (own_acts i ended.run.acts ++ Ends i ended.end ended.left ∷ own_events i later now)

-- the items that an event is, and that several are
abbrev pub items_for : {T : Type 0} → ProcessEvent T → List Item
items_for (Opens i node) = []
items_for (Acts i act) = record { process = i; takes = act.input; outputs = act.outputs } ∷ []
items_for (Ends i end left) = items_at i end
items_for (Loses i) = []
items_for (Rejoins i bytes) = []

unfoldable pub items_through : {T : Type 0} → List (ProcessEvent T) → List Item
items_through [] = []
items_through (event ∷ events) = items_for event ++ items_through events

-- each event is of process i
abbrev pub AreOf : {T : Type 0} → ℕ → List (ProcessEvent T) → Type 0
AreOf i [] = ⊤
AreOf i (event ∷ events) = (process_of event ≡ i) × AreOf i events

-- what the items deliver is of these messages
abbrev pub AreSentAmong : List Message → List Item → Type 0
AreSentAmong sent [] = ⊤
AreSentAmong sent (item ∷ items) = IsOneOf sent item.takes × AreSentAmong sent items

-- An event may happen to a process in this state, wherever what it delivers was returned before.
abbrev pub MayHappen : {T : Type 0} → Tape T → ℕ → ProcessState T → ProcessEvent T → Type 0
MayHappen tapes n state event = (sent : List Message) → AreSentAmong sent (items_for event) → IsPossible tapes n sent state event

abbrev pub AllMayHappen : {T : Type 0} → Tape T → ℕ → ProcessState T → List (ProcessEvent T) → Type 0
AllMayHappen tapes n state [] = ⊤
AllMayHappen tapes n state (event ∷ events) = MayHappen tapes n state event × AllMayHappen tapes n (state_after state event) events

-- the nodes that a process holds by these events
unfoldable pub nodes_with : {T : Type 0} → Option (Node T) → List (Node T) → List (Node T)
nodes_with None nodes = nodes
nodes_with (Some node) nodes = node ∷ nodes

unfoldable pub nodes_by : {T : Type 0} → ProcessState T → List (ProcessEvent T) → List (Node T)
nodes_by state [] = []
nodes_by state (event ∷ events) = nodes_with (node_in (state_after state event)) (nodes_by (state_after state event) events)

-- ---- what is so of them

module _ {T : Type 0} (i : ℕ) where
  own_both : (events more : List (ProcessEvent T)) → AreOf i events → AreOf i more → AreOf i (events ++ more)
  own_both [] more own later = later
  own_both (event ∷ events) more own later = (own.0, own_both events more own.1 later)

  acts_own : (acts : List (Act T)) → AreOf i (own_acts i acts)
  unfolding own_acts
  acts_own [] = tt
  acts_own (act ∷ acts) = (refl, acts_own acts)

  pub events_own : (ended : List (Ended T)) (now : Option (Run T)) → AreOf i (own_events i ended now)
  unfolding own_events
  events_own [] None = tt
  events_own [] (Some run) = (refl, acts_own run.acts)
  events_own (ended ∷ later) now =
      (refl, own_both (own_acts i ended.run.acts) (Ends i ended.end ended.left ∷ own_events i later now) (acts_own ended.run.acts) (refl, events_own later now))

  acts_plain : (acts : List (Act T)) (more : List (ProcessEvent T)) → IsWithoutLoss more → IsWithoutLoss (own_acts i acts ++ more)
  unfolding own_acts
  acts_plain [] more plain = plain
  acts_plain (act ∷ acts) more plain = acts_plain acts more plain

  pub events_plain : (ended : List (Ended T)) (now : Option (Run T)) → IsWithoutLoss (own_events i ended now)
  unfolding own_events
  events_plain [] None = tt
  events_plain [] (Some run) = subst (λ (es : List (ProcessEvent T)). IsWithoutLoss es) (append-nil (own_acts i run.acts)) (acts_plain run.acts [] tt)
  events_plain (ended ∷ later) now = acts_plain ended.run.acts (Ends i ended.end ended.left ∷ own_events i later now) (events_plain later now)

  acts_items : (acts : List (Act T)) (more : List (ProcessEvent T)) → items_through (own_acts i acts ++ more) ≡ items_by i acts ++ items_through more
  unfolding own_acts items_through items_by
  acts_items [] more = refl
  acts_items (act ∷ acts) more = ap (λ l. record { process = i; takes = act.input; outputs = act.outputs } ∷ l) (acts_items acts more)

  pub events_items : (ended : List (Ended T)) (now : Option (Run T)) → items_through (own_events i ended now) ≡ items_in i ended now
  unfolding own_events items_through items_in
  events_items [] None = refl
  events_items [] (Some run) =
      ap (λ (es : List (ProcessEvent T)). items_through es) (sym (append-nil (own_acts i run.acts))) ∙ acts_items run.acts [] ∙ append-nil (items_by i run.acts)
  events_items (ended ∷ later) now =
      acts_items ended.run.acts (Ends i ended.end ended.left ∷ own_events i later now) ∙ ap (λ l. items_by i ended.run.acts ++ (items_at i ended.end ++ l)) (events_items later now)

  -- the run that has taken some acts
  abbrev run_by : Node T → List (Act T) → Run T
  run_by node acts = record { first = node; acts = acts }

  -- ---- they may happen, one after the other

  module _ (tapes : Tape T) (n : ℕ) where
    acts_happen : (node : Node T) (taken acts : List (Act T)) (more : List (ProcessEvent T)) → AreDone tapes (last_of node taken) acts → AllMayHappen tapes n (Up (run_by node (taken ++ acts))) more →
        AllMayHappen tapes n (Up (run_by node taken)) (own_acts i acts ++ more)
    unfolding own_acts
    acts_happen node taken [] more done later = subst (λ (xs : List (Act T)). AllMayHappen tapes n (Up (run_by node xs)) more) (append-nil taken) later
    acts_happen node taken (act ∷ acts) more done later = (
      λ sent among. (done.0, among.0),
      acts_happen node (taken ++ act ∷ []) acts more (subst (λ (x : Node T). AreDone tapes x acts) (sym (last_more node taken act)) done.1)
          (subst (λ (xs : List (Act T)). AllMayHappen tapes n (Up (run_by node xs)) more) (sym (append_assoc taken (act ∷ []) acts)) later),
    )

    end_happens : (run : Run T) (end : RunEnd) (left : List ℕ) → HasLeft run end left → MayHappen tapes n (Up run) (Ends i end left)
    end_happens run Between left leaves = λ sent among. (leaves, tt)
    end_happens run (Within input) left leaves = λ sent among. (leaves, among.0)
    end_happens run (Failed input) left leaves = λ sent among. (leaves, tt)

    pub events_happen : (bytes : List ℕ) (ended : List (Ended T)) (now : Option (Run T)) → AreRuns tapes n i bytes ended now → AllMayHappen tapes n (Down bytes) (own_events i ended now)
    unfolding own_events last_of
    events_happen bytes [] None are = tt
    events_happen bytes [] (Some run) are = (
      λ sent among. are.opened,
      subst (λ (es : List (ProcessEvent T)). AllMayHappen tapes n (Up (run_by run.first [])) es) (append-nil (own_acts i run.acts)) (acts_happen run.first [] run.acts [] are.done tt),
    )
    events_happen bytes (ended ∷ later) now are = (
      λ sent among. are.0.run.opened,
      acts_happen ended.run.first [] ended.run.acts (Ends i ended.end ended.left ∷ own_events i later now) are.0.run.done
          (end_happens ended.run ended.end ended.left are.0.left, events_happen ended.left later now are.1),
    )

  -- ---- the nodes that the process holds

  acts_nodes : (node : Node T) (taken acts : List (Act T)) (more : List (ProcessEvent T)) →
      nodes_by (Up (run_by node taken)) (own_acts i acts ++ more) ≡ values_after acts ++ nodes_by (Up (run_by node (taken ++ acts))) more
  unfolding own_acts nodes_by nodes_with values_after
  acts_nodes node taken [] more = ap (λ (xs : List (Act T)). nodes_by (Up (run_by node xs)) more) (sym (append-nil taken))
  acts_nodes node taken (act ∷ acts) more =
      ap (λ (x : Node T). x ∷ nodes_by (Up (run_by node (taken ++ act ∷ []))) (own_acts i acts ++ more)) (last_more node taken act)
      ∙ ap (λ (xs : List (Node T)). act.after ∷ xs) (acts_nodes node (taken ++ act ∷ []) acts more)
      ∙ ap (λ (xs : List (Act T)). act.after ∷ (values_after acts ++ nodes_by (Up (run_by node xs)) more)) (append_assoc taken (act ∷ []) acts)

  pub events_nodes : (bytes : List ℕ) (ended : List (Ended T)) (now : Option (Run T)) → nodes_by (Down bytes) (own_events i ended now) ≡ values_of ended now
  unfolding own_events nodes_by nodes_with values_of last_of
  events_nodes bytes [] None = refl
  events_nodes bytes [] (Some run) =
      ap (λ (xs : List (Node T)). run.first ∷ xs)
      (ap (nodes_by (Up (run_by run.first []))) (sym (append-nil (own_acts i run.acts))) ∙ acts_nodes run.first [] run.acts [] ∙ append-nil (values_after run.acts))
  events_nodes bytes (ended ∷ later) now =
      ap (λ (xs : List (Node T)). ended.run.first ∷ xs)
      (acts_nodes ended.run.first [] ended.run.acts (Ends i ended.end ended.left ∷ own_events i later now)
      ∙ ap (λ (xs : List (Node T)). values_after ended.run.acts ++ xs) (events_nodes ended.left later now))
