-- The processes of a timeline agree.
use Rattle.std.proofs.Common.{◌≡◌, ℕ, zero, suc, ◌+◌, ◌<◌, ◌≤◌, List, [], ◌∷◌, ◌++◌, length, take, slice_get, Some, refl, sym, ap, subst, ◌∙◌, arith}
use Rattle.std.proofs.lemmas.Option.{none-some, same_Some}
use Rattle.wf_def.specs.Definition.{Definition}
use Rattle.wf_def.specs.Equality.{definition_eq}
use Rattle.wf_delivery.specs.Delivery.{AnyPart, ShowsNode}
use Rattle.wf_journal.specs.Records.{AreReadOneWay, IsReadAsNone}
use Rattle.wf_learner.specs.History.{map_at}
use Rattle.wf_model.specs.DurableState.{Record, definition_at, fold_from, fold, nothing_stored}
use Rattle.wf_model.specs.World as world
use Rattle.wf_node.specs.Node.{Node}
use Rattle.wf_safety.specs.Theorems.{IsBeginning}
use Rattle.wf_tape.specs.declared.tape.Tape.{Ghosts as Tape}
use Rattle.wf_trace.specs.Course.{Move, course_nodes, AreAllowed, CourseAgrees, CoursesAgree, EntriesAreMoves, CoursesAreOne}
use Rattle.wf_trace.specs.Order.{LivesGoOn}
use Rattle.wf_wms.specs.Answer.{AnswerValue, AskedMapsAreAnsweredAlike, AsksForMap, EachQueryHasOneAnswer, IsAnswerOf, subject}
use Rattle.wf_replacement.specs.Timeline.{ProcessEvent, IsTimeline, state_at}
use Rattle.wf_replacement.specs.Rejoining.{EachMayRejoin}
use Rattle.wf_replacement.specs.Theorems.{IsOneCourse, TimelineIsCourse, IsHeldAt, HasOneHistory, OneHistory, OneDefinition, ListsGrow, OneAnswer, OneMapAnswer}
use Rattle.wf_replacement.proofs.Courses.{first, shown, course_is, course_outputs, course_seen, course_moment, course_allowed}
use Rattle.wf_replacement.proofs.Growth.{shown_list, node_list, lists_between}
use Rattle.wf_replacement.proofs.Guard.{node_begins, moves_allowed}
use Rattle.wf_replacement.proofs.Moves.{StandOnlyFor}
use Rattle.wf_replacement.proofs.Prefixes.{begins_through}

folds_nothing : fold {V = Definition} [] ≡ Some nothing_stored
unfolding fold fold_from
folds_nothing = refl

pub nothing_alone : IsReadAsNone → StandOnlyFor nothing_stored []
nothing_alone none = λ other also.
    same_Some other nothing_stored (sym also.folds ∙ ap (λ (rs : List (Record Definition)). fold rs) (none also.records also.reads) ∙ folds_nothing)

module _ {T : Type 0} (one : AreReadOneWay) (none : IsReadAsNone) (lives : LivesGoOn Definition) (entries : EntriesAreMoves Definition) (courses : CoursesAreOne Definition) (tapes : Tape T) (n : ℕ)
    (events : List (ProcessEvent T)) (timeline : IsTimeline tapes n events) where
  abbrev before : List (Move Definition)
  before = first one (nothing_alone none) lives entries courses tapes n events timeline

  abbrev after : List (Move Definition)
  after = (shown one (nothing_alone none) lives entries courses tapes n events timeline).moves

  -- the node of process i at moment k
  abbrev node_then : ℕ → ℕ → world.Node Definition
  node_then k i = course_nodes (before ++ take k after) i

  allowed : EachMayRejoin n events → AreAllowed n [] (before ++ after)
  allowed each = course_allowed one (nothing_alone none) lives entries courses tapes n events timeline
      (moves_allowed n events before after (shown one (nothing_alone none) lives entries courses tapes n events timeline).of_events
      (course_seen one (nothing_alone none) lives entries courses tapes n events timeline) each)

  moment_is : (k i : ℕ) → course_nodes (take (length before + k) (before ++ after)) i ≡ node_then k i
  moment_is = course_moment one (nothing_alone none) lives entries courses tapes n events timeline

  one_course : IsOneCourse n events
  one_course = record {
    first = length before;
    moves = before ++ after;
    are_moves = course_is one (nothing_alone none) lives entries courses tapes n events timeline;
    running = λ k i node less at. subst (ShowsNode (AnyPart i) node) (sym (moment_is k i)) (course_seen one (nothing_alone none) lives entries courses tapes n events timeline k i node less at);
    outputs = course_outputs one (nothing_alone none) lives entries courses tapes n events timeline;
    allowed = allowed;
  }

  module _ (agree : CoursesAgree Definition) (each : EachMayRejoin n events) where
    agrees : CourseAgrees n (before ++ after)
    agrees = agree definition_eq n (before ++ after) (course_is one (nothing_alone none) lives entries courses tapes n events timeline) (allowed each)

    one_history : HasOneHistory n events
    one_history = record {
      history = agrees.history;
      each = λ k i node held.
          begins_through node.parts.history (node_then k i).stored.history agrees.history
          (node_begins i node (node_then k i) (course_seen one (nothing_alone none) lives entries courses tapes n events timeline k i node held.is_member held.at))
          (subst (λ (x : world.Node Definition). IsBeginning x.stored.history agrees.history) (moment_is k i) (agrees.each i (length before + k) held.is_member));
    }

    -- the lists of the model's nodes grow
    nodes_grow : (i : ℕ) → i < n → (k l : ℕ) → k ≤ l → IsBeginning (node_then k i).stored.history (node_then l i).stored.history
    nodes_grow i is_member k l later =
        subst (λ (x : world.Node Definition). IsBeginning (node_then k i).stored.history x.stored.history) (moment_is l i)
        (subst (λ (x : world.Node Definition). IsBeginning x.stored.history (course_nodes (take (length before + l) (before ++ after)) i).stored.history) (moment_is k i)
        (agrees.grows i (length before + k) (length before + l) is_member (omega (arith, later))))

    lists_grow : (k l i : ℕ) (node next : Node T) → k ≤ l → IsHeldAt n events k i node → IsHeldAt n events l i next → IsBeginning node.parts.history next.parts.history
    lists_grow k l i node next later held then =
        subst (IsBeginning node.parts.history) (node_list (state_at events l i) (node_then l i) next then.at)
        (subst (λ xs. IsBeginning xs (shown_list (state_at events l i) (node_then l i))) (node_list (state_at events k i) (node_then k i) node held.at)
        (lists_between tapes n events timeline i (λ m. node_then m i) (λ m other at. course_seen one (nothing_alone none) lives entries courses tapes n events timeline m i other held.is_member at)
        (nodes_grow i held.is_member) l k later))

-- ---- the theorems

module _ {T : Type 0} (one : AreReadOneWay) (none : IsReadAsNone) (lives : LivesGoOn Definition) (entries : EntriesAreMoves Definition) (courses : CoursesAreOne Definition) (tapes : Tape T) where
  pub timeline_is_course : TimelineIsCourse tapes
  timeline_is_course = λ n events timeline. one_course one none lives entries courses tapes n events timeline

  pub timeline_has_one_history : CoursesAgree Definition → OneHistory tapes
  timeline_has_one_history agree = λ n events timeline each. one_history one none lives entries courses tapes n events timeline agree each

  pub timeline_grows : CoursesAgree Definition → ListsGrow tapes
  timeline_grows agree = λ n events timeline each. lists_grow one none lives entries courses tapes n events timeline agree each

-- ---- lists of which one history begins

at_longer : (xs ys : List Definition) (k : ℕ) (d : Definition) → slice_get xs k ≡ Some d → slice_get (xs ++ ys) k ≡ Some d
at_longer [] ys k d at = absurd (none-some d at)
at_longer (x ∷ xs) ys zero d at = at
at_longer (x ∷ xs) ys (suc k) d at = at_longer xs ys k d at

definition_longer : (xs ys : List Definition) (s : ℕ) (d : Definition) → IsBeginning xs ys → definition_at xs s ≡ Some d → definition_at ys s ≡ Some d
unfolding definition_at
definition_longer xs ys zero d begins at = absurd (none-some d at)
definition_longer xs ys (suc k) d begins at = subst (λ zs. slice_get zs k ≡ Some d) begins.1 (at_longer xs begins.0 k d at)

module _ (history xs ys : List Definition) (first : IsBeginning xs history) (second : IsBeginning ys history) where
  one_definition : (s : ℕ) (c d : Definition) → definition_at xs s ≡ Some c → definition_at ys s ≡ Some d → c ≡ d
  one_definition s c d at other = same_Some c d (sym (definition_longer xs history s c first at) ∙ definition_longer ys history s d second other)

  one_map : (k : ℕ) (c d : Definition) → map_at xs k ≡ Some c → map_at ys k ≡ Some d → c ≡ d
  unfolding map_at
  one_map zero c d at there = same_Some c d (sym at ∙ there)
  one_map (suc k) c d at there = one_definition (suc k) c d at there

  module _ (theorem : EachQueryHasOneAnswer) (s : ℕ) (query : List ℕ) (answer another : AnswerValue) where
    its_map : (list : List Definition) (a : AnswerValue) → IsAnswerOf s list query a → (map : Definition) × (map_at list (subject s query) ≡ Some map)
    unfolding IsAnswerOf subject
    its_map list a is = (is.map, is.is_published)

    one_answer : IsAnswerOf s xs query answer → IsAnswerOf s ys query another → another ≡ answer
    one_answer is is_other =
        let here = its_map xs answer is in
        let there = its_map ys another is_other in
        let same : here.0 ≡ there.0 = one_map (subject s query) here.0 there.0 here.1 there.1 in
        theorem s xs ys query answer another (here.1 ∙ ap (λ m. Some m) same ∙ sym there.1) is is_other

  one_map_answer : EachQueryHasOneAnswer → AskedMapsAreAnsweredAlike → (s t m : ℕ) (query : List ℕ) (answer another : AnswerValue) → AsksForMap m s query → AsksForMap m t query →
      IsAnswerOf s xs query answer → IsAnswerOf t ys query another → another ≡ answer
  one_map_answer theorem elsewhere s t m query answer another asks also is is_other = one_answer theorem s query answer another is (elsewhere s t m ys query another asks also is_other)

module _ {T : Type 0} (tapes : Tape T) (theorem : OneHistory tapes) where
  pub timeline_has_one_definition : OneDefinition tapes
  timeline_has_one_definition = λ n events timeline each k i l j node other held also s c d at there.
      let so = theorem n events timeline each in
      one_definition so.history node.parts.history other.parts.history (so.each k i node held) (so.each l j other also) s c d at there

  pub timeline_has_one_answer : EachQueryHasOneAnswer → OneAnswer tapes
  timeline_has_one_answer answers = λ n events timeline each k i l j node other held also s query answer another long longer is is_other.
      let so = theorem n events timeline each in
      one_answer so.history node.parts.history other.parts.history (so.each k i node held) (so.each l j other also) answers s query answer another is is_other

  pub timeline_has_one_map_answer : EachQueryHasOneAnswer → AskedMapsAreAnsweredAlike → OneMapAnswer tapes
  timeline_has_one_map_answer answers elsewhere = λ n events timeline each k i l j node other held also s t m query answer another asks asks_too long longer is is_other.
      let so = theorem n events timeline each in
      one_map_answer so.history node.parts.history other.parts.history (so.each k i node held) (so.each l j other also) answers elsewhere s t m query answer another asks asks_too is is_other
