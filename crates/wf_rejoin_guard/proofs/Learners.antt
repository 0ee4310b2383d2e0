-- A process that is replaced may be, where its folder has joined by learning.
use Rattle.std.proofs.Common.{◌≡◌, ℕ, zero, suc, ◌<◌, ◌≤◌, List, [], ◌∷◌, ◌++◌, length, take, slice_get, Some, refl, sym, ap, subst, ◌∙◌, inl, inr, arith}
use Rattle.std.proofs.lemmas.List.{take-take}
use Rattle.wf_codec.specs.declared.message.Message.{Message}
use Rattle.wf_def.specs.Definition.{Definition}
use Rattle.wf_model.specs.DurableState.{published, definition_at}
use Rattle.wf_node.specs.Node.{Node}
use Rattle.wf_rejoin.specs.Joining.{HasWindowAfter, highest_answer}
use Rattle.wf_rejoin.specs.declared.joining.Joining.{Joining}
use Rattle.wf_replacement.specs.Rejoining.{IsSilent, WasAsked, MayRejoin, EachMayRejoin}
use Rattle.wf_replacement.specs.Theorems.{HasOneHistory, OneHistory, ListsGrow}
use Rattle.wf_replacement.specs.Timeline.{ProcessEvent, Opens, Acts, Ends, Loses, Rejoins, process_of, returned_by, returned_through, ProcessState, Down, Up, Lost, node_in, HoldsCopy, IsPossible, states_with, states_from, ArePossible, unstarted_process, IsTimeline, node_at}
use Rattle.wf_safety.specs.Theorems.{IsBeginning}
use Rattle.wf_tape.specs.declared.tape.Tape.{Ghosts as Tape}
use Rattle.wf_rejoin_guard.specs.Joined.{IsPublishedBy, HasJoined, JoinedMayRejoin}
use Rattle.wf_rejoin_guard.specs.Learned.{HoldsLearned, LearnedAreCopies, WasPublished, ChosenArePublished, HasJoinedByLearning, EachHasLearned, IsLooselyPossible, AreLooselyPossible, IsLooseTimeline, LearnersMayRejoin, LearnedOneHistory, LearnedListsGrow}
use Rattle.wf_rejoin_guard.proofs.Lists.{get_within, get_taken, get_longer, get_shorter, begins_by_each, HasLast, has_last}

-- ---- published definitions are a beginning of one process's

-- Each definition of a list was published by some process: then it is a beginning of what the
-- process had published that has its last one.
module _ (history xs ys : List Definition) (begins : IsBeginning ys history) (each : (k : ℕ) (d : Definition) → slice_get xs k ≡ Some d → slice_get history k ≡ Some d) where
  shorter_begins : length xs ≤ length ys → IsBeginning xs ys
  shorter_begins long = begins_by_each xs ys (λ k d at.
      let within : k < length xs = get_within xs k d at in
      get_shorter ys begins.0 k d (omega (arith, within, long)) (subst (λ zs. slice_get zs k ≡ Some d) (sym begins.1) (each k d at)))

at_history : (history ys : List Definition) (k : ℕ) (d : Definition) → IsBeginning ys history → definition_at ys (suc k) ≡ Some d → slice_get history k ≡ Some d
unfolding definition_at
at_history history ys k d begins at = subst (λ zs. slice_get zs k ≡ Some d) begins.1 (get_longer ys begins.0 k d at)

-- ---- moments of the first events

module _ {T : Type 0} (events : List (ProcessEvent T)) where
  -- up to moment k, the first k events are all
  node_first : (k m i : ℕ) (node : Node T) → m ≤ k → node_at events m i ≡ Some node → node_at (take k events) m i ≡ Some node
  node_first k m i node less at = ap (λ (es : List (ProcessEvent T)). node_in (states_from unstarted_process es i)) (take-take m k events less) ∙ at

  silent_first : (k since until i : ℕ) → IsSilent events since until i → IsSilent (take k events) since until i
  silent_first k since until i silent = λ m event from to at. silent m event from to (get_taken k m events event at).1

  asked_first : (k since until m j : ℕ) → until ≤ k → WasAsked events since until m j → WasAsked (take k events) since until m j
  asked_first k since until m j less was = record {
    moment = was.moment;
    after = was.after;
    before = was.before;
    node = was.node;
    at = node_first k was.moment j was.node (let before = was.before in omega (arith, before, less)) was.at;
    runs = was.runs;
    up_to = was.up_to;
  }

  may_first : (n k until i : ℕ) (bytes : List ℕ) → until ≤ k → MayRejoin n events until i bytes → MayRejoin n (take k events) until i bytes
  may_first n k until i bytes less may = record {
    since = may.since;
    earlier = may.earlier;
    silent = silent_first k may.since until i may.silent;
    m = may.m;
    asked = may.asked;
    half = may.half;
    each = λ j is_member is_asked. asked_first k may.since until may.m j less (may.each j is_member is_asked);
    holds = may.holds;
    far = may.far;
    known = may.known;
    by_then = may.by_then;
    source = may.source;
    is_member = may.is_member;
    node = may.node;
    at = node_first k may.known may.source may.node (let by_then = may.by_then in omega (arith, by_then, less)) may.at;
    copied = may.copied;
  }

possible_first : {T : Type 0} (tapes : Tape T) (n : ℕ) (sent : List Message) (states : ℕ → ProcessState T) (events : List (ProcessEvent T)) (k : ℕ) → ArePossible tapes n sent states events →
    ArePossible tapes n sent states (take k events)
possible_first tapes n sent states events zero are = tt
possible_first tapes n sent states [] (suc k) are = tt
possible_first tapes n sent states (event ∷ events) (suc k) are = (are.0, are.1, possible_first tapes n (sent ++ returned_by event) (states_with states event) events k are.2)

-- ---- what a process is replaced by

possible_by : {T : Type 0} (tapes : Tape T) (n : ℕ) (sent : List Message) (state : ProcessState T) (event : ProcessEvent T) → IsLooselyPossible tapes n sent state event →
    ((i : ℕ) (bytes : List ℕ) → event ≡ Rejoins i bytes → HoldsCopy bytes) → IsPossible tapes n sent state event
possible_by tapes n sent state (Opens i node) is holds = is
possible_by tapes n sent state (Acts i act) is holds = is
possible_by tapes n sent state (Ends i end left) is holds = is
possible_by tapes n sent state (Loses i) is holds = is
possible_by tapes n sent (Down left) (Rejoins i bytes) is holds = absurd is
possible_by tapes n sent (Up run) (Rejoins i bytes) is holds = absurd is
possible_by tapes n sent Lost (Rejoins i bytes) is holds = holds i bytes refl

all_possible : {T : Type 0} (tapes : Tape T) (n : ℕ) (sent : List Message) (states : ℕ → ProcessState T) (events : List (ProcessEvent T)) → AreLooselyPossible tapes n sent states events →
    ((k i : ℕ) (bytes : List ℕ) → slice_get events k ≡ Some (Rejoins i bytes) → HoldsCopy bytes) → ArePossible tapes n sent states events
all_possible tapes n sent states [] are holds = tt
all_possible tapes n sent states (event ∷ events) are holds = (
  are.0,
  possible_by tapes n sent (states (process_of event)) event are.1 (λ i bytes same. holds 0 i bytes (ap Some same)),
  all_possible tapes n (sent ++ returned_by event) (states_with states event) events are.2 (λ k i bytes at. holds (suc k) i bytes at),
)

-- ---- one replacement

-- a folder that may vote has published something
some_published : (j : Joining) (count : ℕ) → HasWindowAfter (highest_answer j) count → 1 ≤ count
some_published j count (inl far) = omega (arith, far)
some_published j count (inr far) = omega (arith, far)

module _ {T : Type 0} (tapes : Tape T) (copies : LearnedAreCopies tapes) where
  learned_bytes : (events : List (ProcessEvent T)) (k : ℕ) (bytes : List ℕ) (j : Joining) → HasJoinedByLearning tapes events k bytes j → HoldsLearned (returned_through (take k events)) bytes
  learned_bytes events k bytes j has =
      subst (HoldsLearned (returned_through (take k events))) has.learned.left
      (copies j.nodes j.node (returned_through (take k events)) has.learned.ended has.learned.are_runs has.learned.learn)

  module _ (reports : ChosenArePublished tapes) (rejoins : JoinedMayRejoin tapes) (agree : OneHistory tapes) (n : ℕ) (events : List (ProcessEvent T)) (timeline : IsTimeline tapes n events) where
    module _ (k : ℕ) (earlier : EachMayRejoin n (take k events)) (bytes : List ℕ) (j : Joining) (nodes : j.nodes ≡ n) (has : HasJoinedByLearning tapes events k bytes j) where
      learned : HoldsLearned (returned_through (take k events)) bytes
      learned = learned_bytes events k bytes j has

      abbrev list : List Definition
      list = learned.holds.stored.history

      before : HasOneHistory n (take k events)
      before = agree n (take k events) (possible_first tapes n [] unstarted_process events k timeline) earlier

      -- who published that of a sequence, and what begins with it
      by_whom : (place : ℕ) (d : Definition) → slice_get list place ≡ Some d → WasPublished n events k (suc place) d
      unfolding definition_at
      by_whom place d at = reports n events timeline k (suc place) d (learned.said (suc place) d at)

      its_list : (s : ℕ) (d : Definition) → (was : WasPublished n events k s d) → IsBeginning was.node.parts.history before.history
      its_list s d was = before.each was.moment was.process was.node (record { is_member = was.held.is_member; at = node_first events k was.moment was.process was.node was.by_then was.held.at })

      in_history : (place : ℕ) (d : Definition) → slice_get list place ≡ Some d → slice_get before.history place ≡ Some d
      in_history place d at =
          let was = by_whom place d at in
          at_history before.history was.node.parts.history place d (its_list (suc place) d was) was.has

      many : 1 ≤ length list
      unfolding published
      many = some_published j (published learned.holds.stored) (has.may_vote learned.holds.stored learned.holds.stands).far

      last_one : HasLast list
      last_one = has_last list many

      its_length : (ys : List Definition) (place : ℕ) (d : Definition) → definition_at ys (suc place) ≡ Some d → suc place ≤ length ys
      unfolding definition_at
      its_length ys place d at = let within = get_within ys place d at in omega (arith, within)

      source : IsPublishedBy j.nodes events k bytes learned.holds
      source =
          let was = by_whom last_one.place last_one.element last_one.at in
          let long = its_length was.node.parts.history last_one.place last_one.element was.has in
          record {
            known = was.moment;
            by_then = was.by_then;
            source = was.process;
            is_member = subst (λ count. was.process < count) (sym nodes) was.held.is_member;
            node = was.node;
            at = was.held.at;
            copied = shorter_begins before.history list was.node.parts.history (its_list (suc last_one.place) last_one.element was) in_history
                (subst (λ count. count ≤ length was.node.parts.history) last_one.is_last long);
          }

      joined : HasJoined events k bytes j
      joined = record {
        answered = has.answered;
        holds = learned.holds;
        may_vote = has.may_vote learned.holds.stored learned.holds.stands;
        source = source;
      }

    -- ---- each of them, one after the other

    module _ (each : EachHasLearned tapes n events) where
      one_more : (k i : ℕ) (bytes : List ℕ) → EachMayRejoin n (take k events) → slice_get events k ≡ Some (Rejoins i bytes) → MayRejoin n events k i bytes
      one_more k i bytes earlier at =
          let (j, folder, has) = each k i bytes at in
          subst (λ count. MayRejoin count events k i bytes) folder.nodes
          (subst (λ p. MayRejoin j.nodes events k p bytes) folder.node (rejoins events k bytes j (joined k earlier bytes j folder.nodes has)))

      up_to : (bound k i : ℕ) (bytes : List ℕ) → k < bound → slice_get events k ≡ Some (Rejoins i bytes) → MayRejoin n events k i bytes
      up_to zero k i bytes less at = absurd (omega (arith, less))
      up_to (suc bound) k i bytes less at = one_more k i bytes
          (λ m p others at_m.
          let so = get_taken k m events (Rejoins p others) at_m in
          let sooner : m < k = so.0 in
          may_first events n k m p others (omega (arith, sooner)) (up_to bound m p others (omega (arith, sooner, less)) so.1)) at

      each_may : EachMayRejoin n events
      each_may = λ k i bytes at. up_to (suc k) k i bytes (omega arith) at

  learners_timeline : (n : ℕ) (events : List (ProcessEvent T)) → IsLooseTimeline tapes n events → EachHasLearned tapes n events → IsTimeline tapes n events
  learners_timeline n events loose each =
      all_possible tapes n [] unstarted_process events loose (λ k i bytes at. let (j, folder, has) = each k i bytes at in (learned_bytes events k bytes j has).holds)

-- ---- the theorems

pub learners_may : {T : Type 0} (tapes : Tape T) → LearnedAreCopies tapes → ChosenArePublished tapes → JoinedMayRejoin tapes → OneHistory tapes → LearnersMayRejoin tapes
learners_may tapes copies reports rejoins agree = λ n events loose each.
    let timeline = learners_timeline tapes copies n events loose each in
    record { timeline = timeline; may_rejoin = each_may tapes copies reports rejoins agree n events timeline each }

pub learned_agree : {T : Type 0} (tapes : Tape T) → LearnersMayRejoin tapes → OneHistory tapes → LearnedOneHistory tapes
learned_agree tapes guarded agree = λ n events loose each. let so = guarded n events loose each in agree n events so.timeline so.may_rejoin

pub learned_grow : {T : Type 0} (tapes : Tape T) → LearnersMayRejoin tapes → ListsGrow tapes → LearnedListsGrow tapes
learned_grow tapes guarded grow = λ n events loose each. let so = guarded n events loose each in grow n events so.timeline so.may_rejoin
