-- The processes of a farm without a loss are a timeline: their runs are merged in the order of the
-- farm's items.
use Rattle.std.proofs.Common.{◌≡◌, ◌≢◌, ℕ, zero, suc, ◌+◌, ◌<◌, ◌≤◌, ◌==◌, List, [], ◌∷◌, ◌++◌, take, slice_get, Option, Some, None, refl, sym, ap, subst, ◌∙◌, inl, inr, arith, append-nil, eq-eqb, ne_eqb, if◌then◌else◌}
use Rattle.std.proofs.lemmas.Bool.{cases_eq, cases_lt}
use Rattle.std.proofs.lemmas.Option.{none-some, same_Some}
use Rattle.wf_execution.specs.Execution.{Execution, values, Item, items_of, IsOneOf, AreInTurn, IsFarm}
use Rattle.wf_execution.specs.Run.{Between, Within, Failed}
use Rattle.wf_execution.specs.Theorems.{outputs_in}
use Rattle.wf_codec.specs.declared.message.Message.{Message}
use Rattle.wf_node.specs.Node.{Node}
use Rattle.wf_tape.specs.declared.tape.Tape.{Ghosts as Tape}
use Rattle.wf_replacement.specs.Timeline.{ProcessEvent, Opens, Acts, Ends, Loses, Rejoins, process_of, returned_by, returned_through, ProcessState, Down, state_after, node_in, IsPossible, states_with, states_from, ArePossible, unstarted_process}
use Rattle.wf_replacement.specs.Theorems.{IsWithoutLoss, IsOneTimeline, FarmIsTimeline}
use Rattle.wf_replacement.proofs.Executions.{own_events, items_for, items_through, AreOf, MayHappen, AllMayHappen, AreSentAmong, nodes_with, nodes_by, events_own, events_plain, events_items, events_happen, events_nodes}
use Rattle.wf_replacement.proofs.Courses.{put, put_own, put_other, state_own, state_other}

-- ---- the events and items of one process

pub events_of : {T : Type 0} → ℕ → List (ProcessEvent T) → List (ProcessEvent T)
events_of i [] = []
events_of i (event ∷ events) = if process_of event == i then event ∷ events_of i events else events_of i events

module _ {T : Type 0} (i : ℕ) (event : ProcessEvent T) (events : List (ProcessEvent T)) where
  own_event : process_of event ≡ i → events_of i (event ∷ events) ≡ event ∷ events_of i events
  unfolding events_of
  own_event same = rw (eq-eqb (process_of event) i same) refl

  other_event : process_of event ≢ i → events_of i (event ∷ events) ≡ events_of i events
  unfolding events_of
  other_event differs = rw (ne_eqb (process_of event) i differs) refl

module _ (i : ℕ) (item : Item) (items : List Item) where
  own_item : item.process ≡ i → items_of i (item ∷ items) ≡ item ∷ items_of i items
  unfolding items_of
  own_item same = rw (eq-eqb item.process i same) refl

  other_item : item.process ≢ i → items_of i (item ∷ items) ≡ items_of i items
  unfolding items_of
  other_item differs = rw (ne_eqb item.process i differs) refl

-- ---- what is left of each process, and the events of all

-- Each of the n processes is in this state, and goes on by these events, which are its items.
record AreLeft {T : Type 0} (tapes : Tape T) (n : ℕ) (states : ℕ → ProcessState T) (lives : ℕ → List (ProcessEvent T)) (items : List Item) : Type 0 where
  own : (i : ℕ) → i < n → AreOf i (lives i)
  happen : (i : ℕ) → i < n → AllMayHappen tapes n (states i) (lives i)
  are_items : (i : ℕ) → i < n → items_through (lives i) ≡ items_of i items
  plain : (i : ℕ) → i < n → IsWithoutLoss (lives i)

-- One list of events has these of each process, in their order.
record Merged {T : Type 0} (tapes : Tape T) (n : ℕ) (sent : List Message) (states : ℕ → ProcessState T) (lives : ℕ → List (ProcessEvent T)) (items : List Item) : Type 0 where
  events : List (ProcessEvent T)
  each : (i : ℕ) → i < n → events_of i events ≡ lives i
  possible : ArePossible tapes n sent states events
  returned : returned_through events ≡ outputs_in items
  plain : IsWithoutLoss events

plain_first : {T : Type 0} (event : ProcessEvent T) (events more : List (ProcessEvent T)) → IsWithoutLoss (event ∷ events) → IsWithoutLoss more → IsWithoutLoss (event ∷ more)
plain_first (Opens i node) events more plain later = later
plain_first (Acts i act) events more plain later = later
plain_first (Ends i end left) events more plain later = later
plain_first (Loses i) events more plain later = absurd plain
plain_first (Rejoins i bytes) events more plain later = absurd plain

plain_rest : {T : Type 0} (event : ProcessEvent T) (events : List (ProcessEvent T)) → IsWithoutLoss (event ∷ events) → IsWithoutLoss events
plain_rest (Opens i node) events plain = plain
plain_rest (Acts i act) events plain = plain
plain_rest (Ends i end left) events plain = plain
plain_rest (Loses i) events plain = absurd plain
plain_rest (Rejoins i bytes) events plain = absurd plain

-- ---- the first event of process p

module _ {T : Type 0} (tapes : Tape T) (n p : ℕ) (is_member : p < n) (sent : List Message) (states : ℕ → ProcessState T) (lives : ℕ → List (ProcessEvent T)) (items more : List Item)
    (event : ProcessEvent T) (rest : List (ProcessEvent T)) (its : lives p ≡ event ∷ rest) (left : AreLeft tapes n states lives items) where
  first_own : process_of event ≡ p
  first_own = (subst (AreOf p) its (left.own p is_member)).0

  first_happens : MayHappen tapes n (states p) event × AllMayHappen tapes n (state_after (states p) event) rest
  first_happens = let all = subst (AllMayHappen tapes n (states p)) its (left.happen p is_member) in (all.0, all.1)

  first_plain : IsWithoutLoss (event ∷ rest)
  first_plain = subst (λ (es : List (ProcessEvent T)). IsWithoutLoss es) its (left.plain p is_member)

  abbrev lives_next : ℕ → List (ProcessEvent T)
  lives_next = put lives p rest

  -- what is left after it, where its items are those that are taken away
  module _ (its_items : items_through rest ≡ items_of p more) (others : (i : ℕ) → i ≢ p → items_of i items ≡ items_of i more) where
    left_next : AreLeft tapes n (states_with states event) lives_next more
    left_next = record {
      own = λ i less. elim (cases_eq i p) [
        | inl same ↦ subst (AreOf i) (sym (put_own lives p rest i same)) (subst (λ j. AreOf j rest) (sym same) (subst (AreOf p) its (left.own p is_member)).1)
        | inr differs ↦ subst (AreOf i) (sym (put_other lives p rest i differs)) (left.own i less)
      ];
      happen = λ i less. elim (cases_eq i p) [
        | inl same ↦
            subst (AllMayHappen tapes n (states_with states event i)) (sym (put_own lives p rest i same))
            (subst (λ s. AllMayHappen tapes n s rest) (sym (state_own states event i (same ∙ sym first_own)))
            (subst (λ j. AllMayHappen tapes n (state_after (states j) event) rest) (sym same) first_happens.1))
        | inr differs ↦
            subst (AllMayHappen tapes n (states_with states event i)) (sym (put_other lives p rest i differs))
            (subst (λ s. AllMayHappen tapes n s (lives i)) (sym (state_other states event i (λ e. differs (e ∙ first_own)))) (left.happen i less))
      ];
      are_items = λ i less. elim (cases_eq i p) [
        | inl same ↦ subst (λ es. items_through es ≡ items_of i more) (sym (put_own lives p rest i same)) (subst (λ j. items_through rest ≡ items_of j more) (sym same) its_items)
        | inr differs ↦ subst (λ es. items_through es ≡ items_of i more) (sym (put_other lives p rest i differs)) (left.are_items i less ∙ others i differs)
      ];
      plain = λ i less. elim (cases_eq i p) [
        | inl same ↦ subst (λ (es : List (ProcessEvent T)). IsWithoutLoss es) (sym (put_own lives p rest i same)) (plain_rest event rest first_plain)
        | inr differs ↦ subst (λ (es : List (ProcessEvent T)). IsWithoutLoss es) (sym (put_other lives p rest i differs)) (left.plain i less)
      ];
    }

    merged_first : AreSentAmong sent (items_for event) → returned_by event ++ outputs_in more ≡ outputs_in items → Merged tapes n (sent ++ returned_by event) (states_with states event) lives_next more →
        Merged tapes n sent states lives items
    unfolding returned_through
    merged_first among outputs merged = record {
      events = event ∷ merged.events;
      each = λ i less. elim (cases_eq i p) [
        | inl same ↦
            own_event i event merged.events (first_own ∙ sym same) ∙ ap (λ es. event ∷ es) (merged.each i less ∙ put_own lives p rest i same) ∙ sym its ∙ ap lives (sym same)
        | inr differs ↦ other_event i event merged.events (λ e. differs (sym e ∙ first_own)) ∙ merged.each i less ∙ put_other lives p rest i differs
      ];
      possible = (
        subst (λ k. k < n) (sym first_own) is_member,
        subst (λ k. IsPossible tapes n sent (states k) event) (sym first_own) (first_happens.0 sent among),
        merged.possible,
      );
      returned = ap (λ ms. returned_by event ++ ms) merged.returned ∙ outputs;
      plain = plain_first event rest merged.events first_plain merged.plain;
    }

-- ---- an event that is no item

-- The event is no item, and returns nothing; or it is one.
data IsSeenAs {T : Type 0} (event : ProcessEvent T) : Type 0 where
  Unseen : items_for event ≡ [] → returned_by event ≡ [] → IsSeenAs event
  SeenAs : (item : Item) → items_for event ≡ item ∷ [] → returned_by event ≡ item.outputs → IsSeenAs event

seen_as : {T : Type 0} (event : ProcessEvent T) → IsSeenAs event
seen_as (Opens i node) = Unseen refl refl
seen_as (Acts i act) = SeenAs (record { process = i; takes = act.input; outputs = act.outputs }) refl refl
seen_as (Ends i Between left) = Unseen refl refl
seen_as (Ends i (Within input) left) = SeenAs (record { process = i; takes = input; outputs = [] }) refl refl
seen_as (Ends i (Failed input) left) = Unseen refl refl
seen_as (Loses i) = Unseen refl refl
seen_as (Rejoins i bytes) = Unseen refl refl

items_first : {T : Type 0} (event : ProcessEvent T) (rest : List (ProcessEvent T)) → items_through (event ∷ rest) ≡ items_for event ++ items_through rest
unfolding items_through
items_first event rest = refl

no_items : (T : Type 0) (item : Item) (items : List Item) → items_through {T = T} [] ≡ item ∷ items → ⊥
unfolding items_through
no_items T item items e = absurd cc

module _ {A : Type 0} (x y : A) (xs ys : List A) (e : x ∷ xs ≡ y ∷ ys) where
  same_head : x ≡ y
  same_head = cc

  same_tail : xs ≡ ys
  same_tail = cc

-- ---- up to one item

module _ {T : Type 0} (tapes : Tape T) (n : ℕ) (item : Item) (items : List Item) (is_member : item.process < n)
    (go_on : (sent : List Message) (states : ℕ → ProcessState T) (lives : ℕ → List (ProcessEvent T)) → AreLeft tapes n states lives items → AreInTurn n sent items → Merged tapes n sent states lives items) where
  abbrev p : ℕ
  p = item.process

  abbrev GoesUp : List (ProcessEvent T) → Type 0
  GoesUp events = (sent : List Message) (states : ℕ → ProcessState T) (lives : ℕ → List (ProcessEvent T)) → lives p ≡ events → AreLeft tapes n states lives (item ∷ items) →
      IsOneOf sent item.takes → AreInTurn n (sent ++ item.outputs) items → Merged tapes n sent states lives (item ∷ items)

  module _ (event : ProcessEvent T) (rest : List (ProcessEvent T)) (recur : GoesUp rest) (sent : List Message) (states : ℕ → ProcessState T) (lives : ℕ → List (ProcessEvent T)) (its : lives p ≡ event ∷ rest)
      (left : AreLeft tapes n states lives (item ∷ items)) (received : IsOneOf sent item.takes) (later : AreInTurn n (sent ++ item.outputs) items) where
    items_left : items_for event ++ items_through rest ≡ items_of p (item ∷ items)
    items_left = sym (items_first event rest) ∙ ap items_through (sym its) ∙ left.are_items p is_member

    by_seen : IsSeenAs event → Merged tapes n sent states lives (item ∷ items)
    unfolding outputs_in
    by_seen (Unseen none quiet) =
        let its_items : items_through rest ≡ items_of p (item ∷ items) = ap (λ l. l ++ items_through rest) (sym none) ∙ items_left in
        let same : sent ++ returned_by event ≡ sent = ap (λ ms. sent ++ ms) quiet ∙ append-nil sent in
        merged_first tapes n p is_member sent states lives (item ∷ items) (item ∷ items) event rest its left its_items (λ i differs. refl) (subst (AreSentAmong sent) (sym none) tt)
        (ap (λ ms. ms ++ outputs_in (item ∷ items)) quiet)
        (recur (sent ++ returned_by event) (states_with states event) (put lives p rest) (put_own lives p rest p refl)
        (left_next tapes n p is_member sent states lives (item ∷ items) (item ∷ items) event rest its left its_items (λ i differs. refl))
        (subst (λ ms. IsOneOf ms item.takes) (sym same) received) (subst (λ ms. AreInTurn n (ms ++ item.outputs) items) (sym same) later))
    by_seen (SeenAs it its_item outputs) =
        let both : it ∷ items_through rest ≡ item ∷ items_of p items = ap (λ l. l ++ items_through rest) (sym its_item) ∙ items_left ∙ own_item p item items refl in
        let same : it ≡ item = same_head it item (items_through rest) (items_of p items) both in
        let its_items : items_through rest ≡ items_of p items = same_tail it item (items_through rest) (items_of p items) both in
        let returned : returned_by event ≡ item.outputs = outputs ∙ ap (λ (x : Item). x.outputs) same in
        let others : (i : ℕ) → i ≢ p → items_of i (item ∷ items) ≡ items_of i items = λ i differs. other_item i item items (λ e. differs (sym e)) in
        merged_first tapes n p is_member sent states lives (item ∷ items) items event rest its left its_items others
        (subst (AreSentAmong sent) (sym its_item) (subst (λ (x : Item). IsOneOf sent x.takes) (sym same) received, tt))
        (ap (λ ms. ms ++ outputs_in items) returned)
        (go_on (sent ++ returned_by event) (states_with states event) (put lives p rest) (left_next tapes n p is_member sent states lives (item ∷ items) items event rest its left its_items others)
        (subst (λ ms. AreInTurn n (sent ++ ms) items) (sym returned) later))

  up_to_item : (events : List (ProcessEvent T)) → GoesUp events
  up_to_item [] sent states lives its left received later = absurd (no_items T item (items_of p items) (ap items_through (sym its) ∙ left.are_items p is_member ∙ own_item p item items refl))
  up_to_item (event ∷ rest) sent states lives its left received later = by_seen event rest (up_to_item rest) sent states lives its left received later (seen_as event)

-- ---- no item is left: the events of one process after the other

module _ {T : Type 0} (tapes : Tape T) (n k : ℕ) (is_member : k < n) where
  -- those of the processes from k on are done
  abbrev AreDoneFrom : ℕ → (ℕ → List (ProcessEvent T)) → Type 0
  AreDoneFrom from lives = (i : ℕ) → i < n → from ≤ i → lives i ≡ []

  module _ (go_on : (sent : List Message) (states : ℕ → ProcessState T) (lives : ℕ → List (ProcessEvent T)) → AreLeft tapes n states lives [] → AreDoneFrom k lives → Merged tapes n sent states lives []) where
    abbrev GoesToEnd : List (ProcessEvent T) → Type 0
    GoesToEnd events = (sent : List Message) (states : ℕ → ProcessState T) (lives : ℕ → List (ProcessEvent T)) → lives k ≡ events → AreLeft tapes n states lives [] → AreDoneFrom (suc k) lives →
        Merged tapes n sent states lives []

    module _ (event : ProcessEvent T) (rest : List (ProcessEvent T)) (recur : GoesToEnd rest) (sent : List Message) (states : ℕ → ProcessState T) (lives : ℕ → List (ProcessEvent T)) (its : lives k ≡ event ∷ rest)
        (left : AreLeft tapes n states lives []) (done : AreDoneFrom (suc k) lives) where
      nothing_left : items_for event ++ items_through rest ≡ []
      unfolding items_of
      nothing_left = sym (items_first event rest) ∙ ap items_through (sym its) ∙ left.are_items k is_member

      end_by : IsSeenAs event → Merged tapes n sent states lives []
      unfolding items_of outputs_in
      end_by (Unseen none quiet) =
          let its_items : items_through rest ≡ [] = ap (λ l. l ++ items_through rest) (sym none) ∙ nothing_left in
          merged_first tapes n k is_member sent states lives [] [] event rest its left its_items (λ i differs. refl) (subst (AreSentAmong sent) (sym none) tt) (ap (λ ms. ms ++ []) quiet)
          (recur (sent ++ returned_by event) (states_with states event) (put lives k rest) (put_own lives k rest k refl)
          (left_next tapes n k is_member sent states lives [] [] event rest its left its_items (λ i differs. refl))
          (λ i less above. put_other lives k rest i (λ e. absurd (omega (arith, e, above))) ∙ done i less above))
      end_by (SeenAs it its_item outputs) =
          let none : it ∷ items_through rest ≡ [] = ap (λ l. l ++ items_through rest) (sym its_item) ∙ nothing_left in
          absurd (cc none)

    to_end : (events : List (ProcessEvent T)) → GoesToEnd events
    to_end [] sent states lives its left done = go_on sent states lives left (λ i less above. elim (cases_lt k i) [
      | inl higher ↦ done i less (omega (arith, higher))
      | inr lower ↦ let same : i ≡ k = omega (arith, above, lower) in ap lives same ∙ its
    ])
    to_end (event ∷ rest) sent states lives its left done = end_by event rest (to_end rest) sent states lives its left done (seen_as event)

module _ {T : Type 0} (tapes : Tape T) (n : ℕ) where
  last_events : (k : ℕ) → k ≤ n → (sent : List Message) (states : ℕ → ProcessState T) (lives : ℕ → List (ProcessEvent T)) → AreLeft tapes n states lives [] → ((i : ℕ) → i < n → k ≤ i → lives i ≡ []) →
      Merged tapes n sent states lives []
  unfolding events_of returned_through outputs_in
  last_events zero within sent states lives left done = record { events = []; each = λ i less. sym (done i less (omega arith)); possible = tt; returned = refl; plain = tt }
  last_events (suc k) within sent states lives left done =
      let is_member : k < n = omega (arith, within) in
      to_end tapes n k is_member (last_events k (omega (arith, within))) (lives k) sent states lives refl left done

  merge : (items : List Item) (sent : List Message) (states : ℕ → ProcessState T) (lives : ℕ → List (ProcessEvent T)) → AreLeft tapes n states lives items → AreInTurn n sent items → Merged tapes n sent states lives items
  merge [] sent states lives left in_turn = last_events n (omega arith) sent states lives left (λ i less beyond. absurd (omega (arith, less, beyond)))
  merge (item ∷ items) sent states lives left in_turn = up_to_item tapes n item items in_turn.0 (merge items) (lives item.process) sent states lives refl left in_turn.1 in_turn.2

-- ---- what is held

-- at some moments, the one not after the other
record AreHeldFrom {T : Type 0} (states : ℕ → ProcessState T) (events : List (ProcessEvent T)) (i : ℕ) (node next : Node T) : Type 0 where
  moment : ℕ
  later : ℕ
  order : moment ≤ later
  at : node_in (states_from states (take moment events) i) ≡ Some node
  at_later : node_in (states_from states (take later events) i) ≡ Some next

module _ {T : Type 0} (i : ℕ) where
  -- after the first event
  abbrev nodes_from : (ℕ → ProcessState T) → List (ProcessEvent T) → List (Node T)
  nodes_from states events = nodes_by (states i) (events_of i events)

  module _ (states : ℕ → ProcessState T) (event : ProcessEvent T) (events : List (ProcessEvent T)) where
    abbrev next_states : ℕ → ProcessState T
    next_states = states_with states event

    nodes_own : process_of event ≡ i → nodes_from states (event ∷ events) ≡ nodes_with (node_in (next_states i)) (nodes_from next_states events)
    unfolding nodes_by
    nodes_own same =
        ap (nodes_by (states i)) (own_event i event events same)
        ∙ ap (λ s. nodes_with (node_in s) (nodes_by s (events_of i events))) (sym (state_own states event i (sym same)))

    nodes_other : process_of event ≢ i → nodes_from states (event ∷ events) ≡ nodes_from next_states events
    nodes_other differs = ap (nodes_by (states i)) (other_event i event events differs) ∙ ap (λ s. nodes_by s (events_of i events)) (sym (state_other states event i (λ e. differs (sym e))))

    later_both : (node next : Node T) → AreHeldFrom next_states events i node next → AreHeldFrom states (event ∷ events) i node next
    unfolding states_from
    later_both node next held = record { moment = suc held.moment; later = suc held.later; order = let less : held.moment ≤ held.later = held.order in omega (arith, less); at = held.at; at_later = held.at_later }

    -- the first one right after the event
    first_both : (node next : Node T) → node_in (next_states i) ≡ Some node → AreHeldFrom next_states events i next next → AreHeldFrom states (event ∷ events) i node next
    unfolding states_from
    first_both node next at held = record { moment = 1; later = suc held.later; order = omega arith; at = at; at_later = held.at_later }

    -- both right after it
    now_both : (node next : Node T) → node_in (next_states i) ≡ Some node → node_in (next_states i) ≡ Some next → AreHeldFrom states (event ∷ events) i node next
    unfolding states_from
    now_both node next at at_later = record { moment = 1; later = 1; order = omega arith; at = at; at_later = at_later }

    own_both : (both : (q r : ℕ) (node next : Node T) → q ≤ r → slice_get (nodes_from next_states events) q ≡ Some node → slice_get (nodes_from next_states events) r ≡ Some next → AreHeldFrom next_states events i node next) →
        (held : Option (Node T)) → node_in (next_states i) ≡ held → (q r : ℕ) (node next : Node T) → q ≤ r →
        slice_get (nodes_with held (nodes_from next_states events)) q ≡ Some node → slice_get (nodes_with held (nodes_from next_states events)) r ≡ Some next → AreHeldFrom states (event ∷ events) i node next
    unfolding nodes_with
    own_both both None is q r node next less at at_later = later_both node next (both q r node next less at at_later)
    own_both both (Some m) is zero zero node next less at at_later = now_both node next (is ∙ at) (is ∙ at_later)
    own_both both (Some m) is zero (suc r) node next less at at_later = first_both node next (is ∙ at) (both r r next next (omega arith) at_later at_later)
    own_both both (Some m) is (suc q) zero node next less at at_later = absurd (omega (arith, less))
    own_both both (Some m) is (suc q) (suc r) node next less at at_later = later_both node next (both q r node next (omega (arith, less)) at at_later)

  both_held : (events : List (ProcessEvent T)) (states : ℕ → ProcessState T) (q r : ℕ) (node next : Node T) → q ≤ r → slice_get (nodes_from states events) q ≡ Some node →
      slice_get (nodes_from states events) r ≡ Some next → AreHeldFrom states events i node next
  unfolding nodes_by events_of
  both_held [] states q r node next less at at_later = absurd (none-some node at)
  both_held (event ∷ events) states q r node next less at at_later = elim (cases_eq (process_of event) i) [
    | inl own ↦
        own_both states event events (both_held events (states_with states event)) (node_in (states_with states event i)) refl q r node next less
        (ap (λ xs. slice_get xs q) (sym (nodes_own states event events own)) ∙ at) (ap (λ xs. slice_get xs r) (sym (nodes_own states event events own)) ∙ at_later)
    | inr other ↦
        later_both states event events node next
        (both_held events (states_with states event) q r node next less (ap (λ xs. slice_get xs q) (sym (nodes_other states event events other)) ∙ at)
        (ap (λ xs. slice_get xs r) (sym (nodes_other states event events other)) ∙ at_later))
  ]

-- ---- no process is replaced

pub none_rejoins : {T : Type 0} (events : List (ProcessEvent T)) (k i : ℕ) (bytes : List ℕ) → IsWithoutLoss events → slice_get events k ≡ Some (Rejoins i bytes) → ⊥
none_rejoins [] k i bytes plain at = none-some (Rejoins i bytes) at
none_rejoins {T} (event ∷ events) zero i bytes plain at = subst (λ (e : ProcessEvent T). IsWithoutLoss (e ∷ events)) (same_Some event (Rejoins i bytes) at) plain
none_rejoins (event ∷ events) (suc k) i bytes plain at = none_rejoins events k i bytes (plain_rest event events plain) at

-- ---- the farm

module _ {T : Type 0} (tapes : Tape T) (n : ℕ) (executions : ℕ → Execution T) (items : List Item) (farm : IsFarm tapes n executions items) where
  lives : ℕ → List (ProcessEvent T)
  lives i = own_events i (executions i).ended (executions i).now

  all_left : AreLeft tapes n unstarted_process lives items
  unfolding lives
  all_left = record {
    own = λ i less. events_own i (executions i).ended (executions i).now;
    happen = λ i less. events_happen i tapes n [] (executions i).ended (executions i).now (farm.each i less);
    are_items = λ i less. events_items i (executions i).ended (executions i).now ∙ sym (farm.own i less);
    plain = λ i less. events_plain i (executions i).ended (executions i).now;
  }

  merged : Merged tapes n [] unstarted_process lives items
  merged = merge tapes n items [] unstarted_process lives all_left farm.in_turn

  nodes_held : (i : ℕ) → i < n → nodes_from i unstarted_process merged.events ≡ values (executions i)
  unfolding lives
  nodes_held i less = ap (nodes_by (Down [])) (merged.each i less) ∙ events_nodes i [] (executions i).ended (executions i).now

  one_timeline : IsOneTimeline tapes n executions items
  one_timeline = record {
    events = merged.events;
    timeline = merged.possible;
    without_loss = merged.plain;
    may_rejoin = λ k i bytes at. absurd (none_rejoins merged.events k i bytes merged.plain at);
    returned = merged.returned;
    held = λ i moment later node next less order at at_later.
        let so = both_held i merged.events unstarted_process moment later node next order (ap (λ xs. slice_get xs moment) (nodes_held i less) ∙ at) (ap (λ xs. slice_get xs later) (nodes_held i less) ∙ at_later) in
        record { moment = so.moment; later = so.later; order = so.order; held = record { is_member = less; at = so.at }; held_next = record { is_member = less; at = so.at_later } };
  }

pub farm_is_timeline : {T : Type 0} (tapes : Tape T) → FarmIsTimeline tapes
farm_is_timeline tapes = λ n executions items farm. one_timeline tapes n executions items farm
