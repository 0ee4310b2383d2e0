-- A timeline is a course of the model: one move for each event, after the stops of new processes.
use Rattle.std.proofs.Common.{◌≡◌, ◌≢◌, ℕ, zero, suc, ◌+◌, ◌<◌, ◌==◌, List, [], ◌∷◌, ◌++◌, length, take, map, slice_get, Some, refl, sym, ap, subst, ◌∙◌, inl, inr, append-nil, eq-eqb, ne_eqb, if◌then◌else◌}
use Rattle.std.proofs.Math.Seq.{take-append-add}
use Rattle.std.proofs.lemmas.Bool.{cases_eq}
use Rattle.std.proofs.lemmas.List.{map-append}
use Rattle.std.proofs.lemmas.Option.{none-some, same_Some}
use Rattle.std.specs.Prelude.{⊤}
use Rattle.wf_codec.specs.Message as message
use Rattle.wf_codec.specs.declared.message.Message.{Message}
use Rattle.wf_def.specs.Definition.{Definition}
use Rattle.wf_def.specs.Equality.{definition_eq}
use Rattle.wf_delivery.specs.Delivery.{AnyPart, ShowsNode}
use Rattle.wf_journal.specs.Records.{AreReadOneWay}
use Rattle.wf_model.specs.DurableState.{DurableState, nothing_stored}
use Rattle.wf_model.specs.World as world
use Rattle.wf_node.specs.Node.{Node}
use Rattle.wf_tape.specs.declared.tape.Tape.{Ghosts as Tape}
use Rattle.wf_trace.specs.Course.{Move, process_moved, outputs_of, outputs_through, node_left, nodes_with, nodes_after, IsMove, AreMoves, AreMovesFromStart, course_nodes, AreAllowed, AreMovesToo, EntriesAreMoves, AreOneCourse, CoursesAreOne}
use Rattle.wf_trace.specs.Deed.{Stops, new_node}
use Rattle.wf_trace.specs.Order.{seen, items_of, outputs_in, AreLivesFrom, GoOnAsOne, LivesGoOn}
use Rattle.wf_trace.specs.Trace.{Entry}
use Rattle.wf_replacement.specs.Timeline.{ProcessEvent, process_of, returned_by, returned_through, ProcessState, state_after, IsPossible, states_with, states_from, ArePossible, unstarted_process, IsTimeline, node_at}
use Rattle.wf_replacement.proofs.Deeds.{down}
use Rattle.wf_replacement.proofs.Moves.{StandOnlyFor, Shows, IsKnown, IsSeen, shown_last, shown_seen, IsMoveOf, OneMove, GoesOn, goes_on}
use Rattle.wf_replacement.proofs.Prefixes.{move_at}

-- ---- one of several changed

pub put : {A : Type 0} → (ℕ → A) → ℕ → A → ℕ → A
put f p x j = if j == p then x else f j

pub put_own : {A : Type 0} (f : ℕ → A) (p : ℕ) (x : A) (j : ℕ) → j ≡ p → put f p x j ≡ x
unfolding put
put_own f p x j same = rw (eq-eqb j p same) refl

pub put_other : {A : Type 0} (f : ℕ → A) (p : ℕ) (x : A) (j : ℕ) → j ≢ p → put f p x j ≡ f j
unfolding put
put_other f p x j differs = rw (ne_eqb j p differs) refl

module _ {T : Type 0} (states : ℕ → ProcessState T) (event : ProcessEvent T) (j : ℕ) where
  pub state_own : j ≡ process_of event → states_with states event j ≡ state_after (states j) event
  unfolding states_with
  state_own same = rw (eq-eqb j (process_of event) same) refl

  pub state_other : j ≢ process_of event → states_with states event j ≡ states j
  unfolding states_with
  state_other differs = rw (ne_eqb j (process_of event) differs) refl

module _ (nodes : ℕ → world.Node Definition) (move : Move Definition) (j : ℕ) where
  left_own : j ≡ process_moved move → nodes_with nodes move j ≡ node_left move
  unfolding nodes_with
  left_own same = rw (eq-eqb j (process_moved move) same) refl

  left_other : j ≢ process_moved move → nodes_with nodes move j ≡ nodes j
  unfolding nodes_with
  left_other differs = rw (ne_eqb j (process_moved move) differs) refl

-- ---- moves of events

-- one for each event, of its process
abbrev pub AreMovesOf : {T : Type 0} → List (ProcessEvent T) → List (Move Definition) → Type 0
AreMovesOf [] [] = ⊤
AreMovesOf [] (move ∷ moves) = ⊥
AreMovesOf (event ∷ events) [] = ⊥
AreMovesOf (event ∷ events) (move ∷ moves) = (process_moved move ≡ process_of event) × IsMoveOf event move × AreMovesOf events moves

-- the event of a move
pub record IsOfEvent {T : Type 0} (events : List (ProcessEvent T)) (k : ℕ) (move : Move Definition) : Type 0 where
  pub event : ProcessEvent T
  pub at : slice_get events k ≡ Some event
  pub own : process_moved move ≡ process_of event
  pub of : IsMoveOf event move

pub event_at : {T : Type 0} (events : List (ProcessEvent T)) (moves : List (Move Definition)) (k : ℕ) (move : Move Definition) → AreMovesOf events moves → slice_get moves k ≡ Some move → IsOfEvent events k move
event_at [] [] k move are at = absurd (none-some move at)
event_at [] (first ∷ moves) k move are at = absurd are
event_at (event ∷ events) [] k move are at = absurd are
event_at (event ∷ events) (first ∷ moves) zero move are at =
    let same : first ≡ move = same_Some first move at in
    record { event = event; at = refl; own = subst (λ (m : Move Definition). process_moved m ≡ process_of event) same are.0; of = subst (IsMoveOf event) same are.1 }
event_at (event ∷ events) (first ∷ moves) (suc k) move are at =
    let later = event_at events moves k move are.2 at in
    record { event = later.event; at = later.at; own = later.own; of = later.of }

-- Moves for these events, from nodes that show the processes, and after each of them too; a process
-- that doesn't run has stored `rest`.
pub record Shown {T : Type 0} (n : ℕ) (sent : List Message) (rest : ℕ → DurableState Definition) (states : ℕ → ProcessState T) (events : List (ProcessEvent T)) : Type 0 where
  pub nodes : ℕ → world.Node Definition
  pub shows : (i : ℕ) → Shows (rest i) (states i) (nodes i)
  pub moves : List (Move Definition)
  pub of_events : AreMovesOf events moves
  pub are_moves : AreMoves definition_eq n (map message.view sent) nodes moves
  pub outputs : outputs_through moves ≡ map message.view (returned_through events)
  pub seen : (k i : ℕ) → i < n → IsSeen i (states_from states (take k events) i) (nodes_after nodes (take k moves) i)

-- ---- no event

module _ {T : Type 0} (n : ℕ) (sent : List Message) (rest : ℕ → DurableState Definition) (states : ℕ → ProcessState T) where
  last_nodes : ℕ → world.Node Definition
  last_nodes i = (shown_last (rest i) (states i)).node

  last_seen : (k i : ℕ) → IsSeen i (states_from states (take k []) i) (nodes_after last_nodes (take k []) i)
  unfolding states_from nodes_after last_nodes
  last_seen zero i = shown_seen i (rest i) (states i) (last_nodes i) (shown_last (rest i) (states i)).shows
  last_seen (suc k) i = shown_seen i (rest i) (states i) (last_nodes i) (shown_last (rest i) (states i)).shows

  shown_none : Shown n sent rest states []
  unfolding outputs_through returned_through last_nodes
  shown_none = record {
    nodes = last_nodes;
    shows = λ i. (shown_last (rest i) (states i)).shows;
    moves = [];
    of_events = tt;
    are_moves = tt;
    outputs = refl;
    seen = λ k i less. last_seen k i;
  }

-- ---- one event before others

module _ {T : Type 0} (one : AreReadOneWay) (courses : CoursesAreOne Definition) (tapes : Tape T) (n : ℕ) where
  module _ (sent : List Message) (rest : ℕ → DurableState Definition) (states : ℕ → ProcessState T) (event : ProcessEvent T) (events : List (ProcessEvent T)) (is_member : process_of event < n)
      (known : (i : ℕ) → IsKnown tapes n i (rest i) (states i)) (possible : IsPossible tapes n sent (states (process_of event)) event) where
    abbrev p : ℕ
    p = process_of event

    goes : GoesOn tapes n sent (rest p) (states p) event
    goes = goes_on one tapes n sent (rest p) (states p) event (known p) possible

    rest_next : ℕ → DurableState Definition
    rest_next = put rest p goes.next

    known_next : (i : ℕ) → IsKnown tapes n i (rest_next i) (states_with states event i)
    unfolding rest_next
    known_next i = elim (cases_eq i p) [
      | inl same ↦
          subst (λ r. IsKnown tapes n i r (states_with states event i)) (sym (put_own rest p goes.next i same))
          (subst (IsKnown tapes n i goes.next) (sym (state_own states event i same))
          (subst (λ j. IsKnown tapes n j goes.next (state_after (states j) event)) (sym same) goes.known))
      | inr differs ↦
          subst (λ r. IsKnown tapes n i r (states_with states event i)) (sym (put_other rest p goes.next i differs))
          (subst (IsKnown tapes n i (rest i)) (sym (state_other states event i differs)) (known i))
    ]

    module _ (later : Shown n (sent ++ returned_by event) rest_next (states_with states event) events) where
      came : OneMove n sent (rest p) (states p) event (later.nodes p)
      unfolding rest_next
      came = goes.comes (later.nodes p)
          (subst (λ r. Shows r (state_after (states p) event) (later.nodes p)) (put_own rest p goes.next p refl)
          (subst (λ s. Shows (rest_next p) s (later.nodes p)) (state_own states event p refl) (later.shows p)))

      nodes : ℕ → world.Node Definition
      nodes = put later.nodes p came.before

      shows : (i : ℕ) → Shows (rest i) (states i) (nodes i)
      unfolding nodes rest_next
      shows i = elim (cases_eq i p) [
        | inl same ↦
            subst (Shows (rest i) (states i)) (sym (put_own later.nodes p came.before i same))
            (subst (λ j. Shows (rest j) (states j) came.before) (sym same) came.shows)
        | inr differs ↦
            subst (Shows (rest i) (states i)) (sym (put_other later.nodes p came.before i differs))
            (subst (λ r. Shows r (states i) (later.nodes i)) (put_other rest p goes.next i differs)
            (subst (λ s. Shows (rest_next i) s (later.nodes i)) (state_other states event i differs) (later.shows i)))
      ]

      -- the move leads to the nodes from which the others go on
      leads : (i : ℕ) → later.nodes i ≡ nodes_after nodes (came.move ∷ []) i
      unfolding nodes nodes_after
      leads i = elim (cases_eq i (process_moved came.move)) [
        | inl same ↦ ap later.nodes (same ∙ came.own) ∙ sym came.leaves ∙ sym (left_own nodes came.move i same)
        | inr differs ↦ sym (put_other later.nodes p came.before i (λ e. differs (e ∙ sym came.own))) ∙ sym (left_other nodes came.move i differs)
      ]

      is_move : IsMove definition_eq n (map message.view sent) nodes came.move
      unfolding nodes
      is_move = move_at definition_eq n (map message.view sent) (λ j. came.before) nodes came.move (sym (put_own later.nodes p came.before (process_moved came.move) came.own)) came.is

      returned_first : outputs_through (came.move ∷ []) ≡ map message.view (returned_by event)
      unfolding outputs_through
      returned_first = append-nil (outputs_of came.move) ∙ came.outputs

      whole : AreOneCourse definition_eq n (map message.view sent) nodes later.nodes (came.move ∷ []) later.moves
      whole = courses definition_eq n (map message.view sent) nodes later.nodes (came.move ∷ []) later.moves
          (subst (λ k. k < n) (sym came.own) is_member, is_move, tt) (λ i less. leads i)
          (subst (λ ms. AreMoves definition_eq n ms later.nodes later.moves)
          (map-append message.view sent (returned_by event) ∙ ap (λ ms. map message.view sent ++ ms) (sym returned_first)) later.are_moves)

      outputs : outputs_through (came.move ∷ later.moves) ≡ map message.view (returned_through (event ∷ events))
      unfolding outputs_through returned_through
      outputs = ap (λ ms. ms ++ outputs_through later.moves) came.outputs ∙ ap (λ ms. map message.view (returned_by event) ++ ms) later.outputs ∙ sym (map-append message.view (returned_by event) (returned_through events))

      seen_each : (k i : ℕ) → i < n → IsSeen i (states_from states (take k (event ∷ events)) i) (nodes_after nodes (take k (came.move ∷ later.moves)) i)
      unfolding states_from nodes_after
      seen_each zero i less = shown_seen i (rest i) (states i) (nodes i) (shows i)
      seen_each (suc k) i less = subst (IsSeen i (states_from (states_with states event) (take k events) i)) (sym (whole.nodes_left i (take k later.moves) less)) (later.seen k i less)

      shown_one : Shown n sent rest states (event ∷ events)
      shown_one = record {
        nodes = nodes;
        shows = shows;
        moves = came.move ∷ later.moves;
        of_events = (came.own, came.of, later.of_events);
        are_moves = whole.are_moves;
        outputs = outputs;
        seen = seen_each;
      }

  shown_all : (events : List (ProcessEvent T)) (sent : List Message) (rest : ℕ → DurableState Definition) (states : ℕ → ProcessState T) → ((i : ℕ) → IsKnown tapes n i (rest i) (states i)) →
      ArePossible tapes n sent states events → Shown n sent rest states events
  shown_all [] sent rest states known possible = shown_none n sent rest states
  shown_all (event ∷ events) sent rest states known possible =
      shown_one sent rest states event events possible.0 known possible.1
      (shown_all events (sent ++ returned_by event) (rest_next sent rest states event events possible.0 known possible.1) (states_with states event)
      (known_next sent rest states event events possible.0 known possible.1) possible.2)

-- ---- before all of them each process stops

pub stopped : ℕ → world.Node Definition
stopped i = down nothing_stored

pub stop_of : ℕ → Entry Definition
stop_of i = record { process = i; deed = Stops; outputs = [] }

stops_alone : (n : ℕ) → AreLivesFrom definition_eq n (λ i. new_node) [] (λ i. stop_of i ∷ []) stopped
unfolding seen items_of stop_of stopped
stops_alone n = record {
  own = λ i less. (refl, tt);
  life = λ i less. (down nothing_stored, record { silent = refl; node = refl }, refl);
  shown = λ i less. refl;
}

module _ (lives : LivesGoOn Definition) (moves : EntriesAreMoves Definition) (n : ℕ) where
  pub stops_first : GoOnAsOne definition_eq n [] (λ i. new_node) [] (λ i. stop_of i ∷ []) stopped
  stops_first = lives definition_eq n [] (λ i. new_node) stopped [] (λ i. stop_of i ∷ []) (stops_alone n) tt

  pub first_moves : AreMovesToo definition_eq n [] (λ i. new_node) stops_first.entries stopped
  first_moves = moves definition_eq n [] (λ i. new_node) stopped stops_first.entries stops_first.goes_on

  pub first_quiet : outputs_through first_moves.moves ≡ []
  unfolding outputs_in
  first_quiet = first_moves.outputs ∙ stops_first.messages

-- ---- all moves

module _ {T : Type 0} (one : AreReadOneWay) (none : StandOnlyFor nothing_stored []) (lives : LivesGoOn Definition) (entries : EntriesAreMoves Definition) (courses : CoursesAreOne Definition) (tapes : Tape T) (n : ℕ)
    (events : List (ProcessEvent T)) (timeline : IsTimeline tapes n events) where
  abbrev pub first : List (Move Definition)
  first = (first_moves lives entries n).moves

  pub shown : Shown n [] (λ i. nothing_stored) unstarted_process events
  shown = shown_all one courses tapes n events [] (λ i. nothing_stored) unstarted_process (λ i. none) timeline

  whole_course : AreOneCourse definition_eq n [] (λ i. new_node) shown.nodes first shown.moves
  unfolding stopped
  whole_course = courses definition_eq n [] (λ i. new_node) shown.nodes first shown.moves (first_moves lives entries n).are_moves
      (λ i less. shown.shows i ∙ sym ((first_moves lives entries n).nodes_left i less))
      (subst (λ ms. AreMoves definition_eq n ms shown.nodes shown.moves) (sym (first_quiet lives entries n)) shown.are_moves)

  pub course_is : AreMovesFromStart definition_eq n (first ++ shown.moves)
  course_is = whole_course.are_moves

  pub course_outputs : outputs_through (first ++ shown.moves) ≡ map message.view (returned_through events)
  course_outputs = whole_course.outputs ∙ ap (λ ms. ms ++ outputs_through shown.moves) (first_quiet lives entries n) ∙ shown.outputs

  -- the processes' nodes at each moment
  pub course_seen : (k i : ℕ) (node : Node T) → i < n → node_at events k i ≡ Some node → ShowsNode (AnyPart i) node (course_nodes (first ++ take k shown.moves) i)
  course_seen k i node less at = subst (ShowsNode (AnyPart i) node) (sym (whole_course.nodes_left i (take k shown.moves) less)) (shown.seen k i less node at)

  pub course_moment : (k i : ℕ) → course_nodes (take (length first + k) (first ++ shown.moves)) i ≡ course_nodes (first ++ take k shown.moves) i
  course_moment k i = ap (λ (ms : List (Move Definition)). course_nodes ms i) (take-append-add first shown.moves k)

  pub course_allowed : AreAllowed n first shown.moves → AreAllowed n [] (first ++ shown.moves)
  course_allowed allowed = whole_course.allowed [] ((first_moves lives entries n).allowed []) allowed
