-- The processes of a farm are one trace.
use Rattle.std.proofs.Common.{◌≡◌, ◌≢◌, ◌⊎◌, ℕ, ◌<◌, ◌≤◌, List, [], ◌∷◌, ◌++◌, map, length, slice_get, Some, None, refl, sym, ap, subst, ◌∙◌, inl, inr, arith, eq-eqb, ne_eqb}
use Rattle.std.proofs.lemmas.Bool.{cases_eq, cases_lt}
use Rattle.std.proofs.lemmas.List.{map-append}
use Rattle.wf_codec.specs.Message as message
use Rattle.wf_codec.specs.declared.message.Message.{Message}
use Rattle.wf_def.specs.Definition.{Definition}
use Rattle.wf_def.specs.Equality.{definition_eq}
use Rattle.wf_safety.specs.Theorems.{IsBeginning}
use Rattle.wf_model.specs.Chosen.{IsIn}
use Rattle.wf_model.specs.DurableState.{nothing_stored}
use Rattle.wf_model.specs.World as world
use Rattle.wf_model.specs.declared.action.Action.TheVariants as action
use Rattle.wf_journal.specs.Records.{AreReadOneWay, IsReadAsNone}
use Rattle.wf_node.specs.Growth.{IsGrown, grown_itself}
use Rattle.wf_node.specs.Input.{view}
use Rattle.wf_node.specs.Node.{Node}
use Rattle.wf_delivery.specs.Delivery.{AnyPart, ShowsNode}
use Rattle.wf_tape.specs.declared.tape.Tape.{Ghosts as Tape}
use Rattle.wf_trace.specs.Deed.{new_node, Stops}
use Rattle.wf_trace.specs.Trace.{Entry, of_process, IsLifeByEntries, node_at, IsInputOf}
use Rattle.wf_trace.specs.Order as order
use Rattle.wf_trace.specs.Order.{seen, AreOf, AreCausal, AreLives, AreOneTrace, LivesAreOneTrace}
use Rattle.wf_trace.specs.Theorems as trace_theorems
use Rattle.wf_trace.specs.Theorems.{AreNodesReachable, TraceIsRun, published_at}
use Rattle.wf_execution.specs.Run.{Input, Run, last}
use Rattle.wf_execution.specs.Execution.{Execution, IsExecution, values, Item, items_of, IsOneOf, AreInTurn, IsFarm}
use Rattle.wf_execution.specs.Theorems.{IsHeld, ListsGrow, HasOneHistory, OneHistory, OneDefinition, outputs_in, IsOneRun, FarmIsOneRun}
use Rattle.wf_execution.proofs.Lists.{begins_by, begins_through, grow_to_end, grow_between, one_definition}
use Rattle.wf_execution.proofs.Lives.{model_item, down, Reachable, reachable_both, reachable_once}
use Rattle.wf_execution.proofs.Executions.{stand_for_nothing, Runs, runs_reach}

-- ---- items, as the model has them

pub own_item : (i : ℕ) (item : Item) (items : List Item) → item.process ≡ i → items_of i (item ∷ items) ≡ item ∷ items_of i items
unfolding items_of
own_item i item items same = rw (eq-eqb item.process i same) refl

pub other_item : (i : ℕ) (item : Item) (items : List Item) → item.process ≢ i → items_of i (item ∷ items) ≡ items_of i items
unfolding items_of
other_item i item items differs = rw (ne_eqb item.process i differs) refl

own_model : (i : ℕ) (item : order.Item Definition) (items : List (order.Item Definition)) → item.process ≡ i → order.items_of i (item ∷ items) ≡ item ∷ order.items_of i items
unfolding order.items_of
own_model i item items same = rw (eq-eqb item.process i same) refl

other_model : (i : ℕ) (item : order.Item Definition) (items : List (order.Item Definition)) → item.process ≢ i → order.items_of i (item ∷ items) ≡ order.items_of i items
unfolding order.items_of
other_model i item items differs = rw (ne_eqb item.process i differs) refl

none_model : (i : ℕ) → order.items_of i [] ≡ map model_item (items_of i [])
unfolding order.items_of items_of
none_model i = refl

items_model : (i : ℕ) (items : List Item) → order.items_of i (map model_item items) ≡ map model_item (items_of i items)
items_model i [] = none_model i
items_model i (item ∷ items) = elim (cases_eq item.process i) [
  | inl own ↦
      own_model i (model_item item) (map model_item items) own ∙ ap (λ xs. model_item item ∷ xs) (items_model i items) ∙ ap (map model_item) (sym (own_item i item items own))
  | inr other ↦ other_model i (model_item item) (map model_item items) other ∙ items_model i items ∙ ap (map model_item) (sym (other_item i item items other))
]

outputs_model : (items : List Item) → order.outputs_in (map model_item items) ≡ map message.view (outputs_in items)
unfolding order.outputs_in outputs_in
outputs_model [] = refl
outputs_model (item ∷ items) = ap (λ ms. map message.view item.outputs ++ ms) (outputs_model items) ∙ sym (map-append message.view item.outputs (outputs_in items))

-- ---- what is delivered was sent

in_view : (m : Message) (sent : List Message) → IsIn m sent → IsIn (message.view m) (map message.view sent)
in_view m [] is_in = absurd is_in
in_view m (first ∷ sent) (inl same) = inl (ap message.view same)
in_view m (first ∷ sent) (inr is_in) = inr (in_view m sent is_in)

input_view : (sent : List Message) (input : Input) → IsOneOf sent input → IsInputOf (map message.view sent) (view input)
input_view sent (action.Propose d) is = tt
input_view sent action.Retry is = tt
input_view sent action.CatchUp is = tt
input_view sent (action.Deliver m) is = in_view m sent is

taken_model : (n : ℕ) (sent : List Message) (items : List Item) → AreInTurn n sent items → AreCausal n (map message.view sent) (map model_item items)
taken_model n sent [] are = tt
taken_model n sent (item ∷ items) are = (
  are.0,
  input_view sent item.takes are.1,
  subst (λ ms. AreCausal n ms (map model_item items)) (map-append message.view sent item.outputs) (taken_model n (sent ++ item.outputs) items are.2),
)

-- ---- the life of each process

module _ {T : Type 0} (one : AreReadOneWay) (none : IsReadAsNone) (tapes : Tape T) where
  nothing_grown : IsGrown [] (nothing_stored {V = Definition}).history
  unfolding nothing_stored
  nothing_grown = grown_itself []

  execution_reaches : (n i : ℕ) (execution : Execution T) → IsExecution tapes n i execution → Runs n i nothing_stored [] execution.ended execution.now
  execution_reaches n i execution is = runs_reach tapes n i one [] nothing_stored [] execution.ended execution.now (stand_for_nothing none) nothing_grown is

  pub lists_grow : ListsGrow tapes
  lists_grow = λ n i execution moment later node next is less at then.
      let runs = execution_reaches n i execution is in
      begins_by node.parts.history next.parts.history (grow_between [] runs.node.stored.history (values execution) moment later node next runs.grow less at then)

  -- from the model's new node on, which stops first
  from_start : (n i : ℕ) (items : List Item) (node : world.Node Definition) → Reachable n i (down nothing_stored) items node → Reachable n i new_node items node
  from_start n i items node reachable =
      reachable_both n i new_node (down nothing_stored) node [] items (reachable_once n i new_node (down nothing_stored) Stops [] [] (record { silent = refl; node = refl }) refl) reachable

  module _ (n : ℕ) (executions : ℕ → Execution T) (items : List Item) (farm : IsFarm tapes n executions items) where
    at_member : (i : ℕ) → i < n → Runs n i nothing_stored [] (executions i).ended (executions i).now
    at_member i is_member = execution_reaches n i (executions i) (farm.each i is_member)

    reachable_at : (i : ℕ) (is_member : i < n) → Reachable n i new_node (items_of i items) (at_member i is_member).node
    reachable_at i is_member =
        from_start n i (items_of i items) (at_member i is_member).node
        (subst (λ xs. Reachable n i (down nothing_stored) xs (at_member i is_member).node) (sym (farm.own i is_member)) (at_member i is_member).reachable)

    -- the entries and the node of a process; there are none of other numbers
    entries_by : (i : ℕ) → (i < n) ⊎ (n ≤ i) → List (Entry Definition)
    entries_by i (inl is_member) = (reachable_at i is_member).entries
    entries_by i (inr beyond) = []

    node_by : (i : ℕ) → (i < n) ⊎ (n ≤ i) → world.Node Definition
    node_by i (inl is_member) = (at_member i is_member).node
    node_by i (inr beyond) = new_node

    abbrev lives : ℕ → List (Entry Definition)
    lives i = entries_by i (cases_lt i n)

    abbrev nodes : ℕ → world.Node Definition
    nodes i = node_by i (cases_lt i n)

    none_beyond : (i : ℕ) → i < n → n ≤ i → ⊥
    none_beyond i is_member beyond = omega (arith, is_member, beyond)

    own_by : (i : ℕ) (d : (i < n) ⊎ (n ≤ i)) → i < n → AreOf i (entries_by i d)
    unfolding entries_by
    own_by i (inl it) is_member = (reachable_at i it).own
    own_by i (inr beyond) is_member = absurd (none_beyond i is_member beyond)

    life_by : (i : ℕ) (d : (i < n) ⊎ (n ≤ i)) → i < n → IsLifeByEntries definition_eq n i new_node (entries_by i d) (node_by i d)
    unfolding entries_by node_by
    life_by i (inl it) is_member = (reachable_at i it).life
    life_by i (inr beyond) is_member = absurd (none_beyond i is_member beyond)

    items_by : (i : ℕ) (d : (i < n) ⊎ (n ≤ i)) → i < n → seen (entries_by i d) ≡ order.items_of i (map model_item items)
    unfolding entries_by
    items_by i (inl it) is_member = (reachable_at i it).as_items ∙ sym (items_model i items)
    items_by i (inr beyond) is_member = absurd (none_beyond i is_member beyond)

    are_lives : AreLives definition_eq n (map model_item items) lives nodes
    are_lives = record {
      own = λ i is_member. own_by i (cases_lt i n) is_member;
      life = λ i is_member. life_by i (cases_lt i n) is_member;
      shown = λ i is_member. items_by i (cases_lt i n) is_member;
    }

    -- ---- what is known of the node of each process

    runs_by : (i : ℕ) (d : (i < n) ⊎ (n ≤ i)) → i < n → (run : Run T) → (executions i).now ≡ Some run → ShowsNode (AnyPart i) (last run) (node_by i d)
    unfolding node_by
    runs_by i (inl it) is_member run now = (at_member i it).runs run now
    runs_by i (inr beyond) is_member run now = absurd (none_beyond i is_member beyond)

    stopped_by : (i : ℕ) (d : (i < n) ⊎ (n ≤ i)) → i < n → (executions i).now ≡ None → (node_by i d).volatile ≡ None
    unfolding node_by
    stopped_by i (inl it) is_member now = (at_member i it).stopped now
    stopped_by i (inr beyond) is_member now = absurd (none_beyond i is_member beyond)

    held_by : (i : ℕ) (d : (i < n) ⊎ (n ≤ i)) → i < n → (moment : ℕ) (node : Node T) → slice_get (values (executions i)) moment ≡ Some node → IsGrown node.parts.history (node_by i d).stored.history
    unfolding node_by
    held_by i (inl it) is_member moment node at = grow_to_end [] (at_member i it).node.stored.history (values (executions i)) moment node (at_member i it).grow at
    held_by i (inr beyond) is_member moment node at = absurd (none_beyond i is_member beyond)

    -- ---- one trace

    module _ (theorem : LivesAreOneTrace Definition) where
      are_one : AreOneTrace definition_eq n (map model_item items) lives nodes
      are_one = theorem definition_eq n (map model_item items) lives nodes are_lives (taken_model n [] items farm.in_turn)

      one_run : TraceIsRun Definition → IsOneRun n executions items
      one_run runs = record {
        nodes = nodes;
        reached = subst (AreNodesReachable definition_eq n nodes) (are_one.messages ∙ outputs_model items) (runs definition_eq n are_one.entries nodes are_one.trace);
        running = λ i run is_member now. runs_by i (cases_lt i n) is_member run now;
        stopped = λ i is_member now. stopped_by i (cases_lt i n) is_member now;
      }

      one_history : trace_theorems.OneHistory Definition → HasOneHistory n executions
      one_history history_theorem =
          let so = history_theorem definition_eq n are_one.entries nodes are_one.trace in
          record {
            history = so.history;
            each = λ node held. begins_last so.history node held
                (so.each held.process held.is_member (length (of_process held.process are_one.entries)));
          }
        where
          node_at_end : (i : ℕ) (before after : world.Node Definition) (entries : List (Entry Definition)) (life : IsLifeByEntries definition_eq n i before entries after) →
              node_at definition_eq n i before entries after life (length entries) ≡ after
          node_at_end i before after [] life = sym life
          node_at_end i before after (entry ∷ entries) life = node_at_end i life.0 after entries life.2

          begins_last : (history : List Definition) (node : Node T) (held : IsHeld n executions node) →
              IsBeginning (published_at definition_eq n are_one.entries nodes are_one.trace held.process held.is_member (length (of_process held.process are_one.entries))) history →
              IsBeginning node.parts.history history
          begins_last history node held begins =
              let grown = held_by held.process (cases_lt held.process n) held.is_member held.moment node held.at in
              let last_begins : IsBeginning (nodes held.process).stored.history history =
              subst (λ (x : world.Node Definition). IsBeginning x.stored.history history)
              (node_at_end held.process new_node (nodes held.process) (of_process held.process are_one.entries) (are_one.trace.lives held.process held.is_member)) begins in
              begins_through node.parts.history (nodes held.process).stored.history history (begins_by node.parts.history (nodes held.process).stored.history grown) last_begins

-- ---- the theorems

pub farm_is_one_run : AreReadOneWay → IsReadAsNone → LivesAreOneTrace Definition → TraceIsRun Definition → {T : Type 0} (tapes : Tape T) → FarmIsOneRun tapes
farm_is_one_run one none merges runs tapes = λ n executions items farm. one_run one none tapes n executions items farm merges runs

pub farm_has_one_history : AreReadOneWay → IsReadAsNone → LivesAreOneTrace Definition → trace_theorems.OneHistory Definition → {T : Type 0} (tapes : Tape T) → OneHistory tapes
farm_has_one_history one none merges history_theorem tapes = λ n executions items farm. one_history one none tapes n executions items farm merges history_theorem

pub farm_has_one_definition : {T : Type 0} (tapes : Tape T) → OneHistory tapes → OneDefinition tapes
farm_has_one_definition tapes theorem = λ n executions items farm node other held also s c d at there.
    let so = theorem n executions items farm in
    one_definition so.history node.parts.history other.parts.history (so.each node held) (so.each other also) s c d at there
