-- What a course's processes have published, at any moments, is of one history.
use Rattle.std.proofs.Common.{◌≡◌, ℕ, ◌<◌, ◌≤◌, Bool, List, [], ◌++◌, take, drop, Some, sym, ap, subst, ◌∙◌}
use Rattle.std.proofs.lemmas.List.{take-append-drop, take-take}
use Rattle.wf_safety.specs.Theorems.{IsBeginning}
use Rattle.wf_safety.specs.Replacement.{Change, changes, after_changes, AreGuarded, AgreementUnderGuard}
use Rattle.wf_model.specs.DurableState.{definition_at}
use Rattle.wf_model.specs.World.{start}
use Rattle.wf_model.specs.Chosen.{IsChosen, history}
use Rattle.wf_trace.specs.Deed.{new_node}
use Rattle.wf_trace.specs.Course.{Move, AreMovesFromStart, course_nodes, published_after, AreAllowed, CourseAgrees, CoursesAgree}
use Rattle.wf_trace.proofs.Growth.{begins_through}
use Rattle.wf_trace.proofs.History.{published_longer, longest_of_all}
use Rattle.wf_trace.proofs.Course.{Shown, Parts, split_at, show_course, shows_after, history_after, course_guarded}
use Rattle.wf_trace.proofs.Moves.{moves_first, allowed_first}

module _ {V : Type 0} (theorem : AgreementUnderGuard V) (same : V → V → Bool) (n : ℕ) where
  module _ (moves : List (Move V)) (are : AreMovesFromStart same n moves) (allowed : AreAllowed n [] moves) where
    shown : Shown same n [] (λ i. new_node) (start n) moves
    shown = show_course same n moves are

    guarded : AreGuarded same n [] shown.list
    guarded = course_guarded same n moves shown.list shown.are_shown allowed

    last_history : (i : ℕ) → i < n → history (changes same (start n) shown.list) i ≡ (course_nodes moves i).stored.history
    last_history i is_member = history_after same n i (course_nodes moves) (changes same (start n) shown.list) is_member (shows_after same n moves shown.list shown.are_shown)

    last_chosen : (i s : ℕ) (d : V) → i < n → definition_at (course_nodes moves i).stored.history s ≡ Some d → IsChosen n (changes same (start n) shown.list).sent s d
    unfolding after_changes
    last_chosen i s d is_member at = (theorem.facts same n shown.list guarded).published_is_chosen i s d (ap (λ ds. definition_at ds s) (last_history i is_member) ∙ at)

    -- at the end
    last_alike : (i j s : ℕ) (c d : V) → i < n → j < n → definition_at (course_nodes moves i).stored.history s ≡ Some c → definition_at (course_nodes moves j).stored.history s ≡ Some d → c ≡ d
    unfolding after_changes
    last_alike i j s c d is_member other_member at other =
        (theorem.facts same n shown.list guarded).one_chosen s c d (last_chosen i s c is_member at) (last_chosen j s d other_member other)

    -- what is published at a moment is a beginning of what is published at the end
    to_last : (i k : ℕ) → i < n → IsBeginning (published_after moves k i) (course_nodes moves i).stored.history
    unfolding after_changes
    to_last i k is_member =
        let parts : Parts same n (start n) (λ j. new_node) (take k moves) (drop k moves) shown.list =
        split_at same n (start n) (λ j. new_node) (take k moves) (drop k moves) moves shown.list (take-append-drop k moves) shown.are_shown in
        let then_published : history (changes same (start n) parts.first) i ≡ published_after moves k i =
        history_after same n i (course_nodes (take k moves)) (changes same (start n) parts.first) is_member (shows_after same n (take k moves) parts.first parts.is_first) in
        let grown : IsBeginning (history (changes same (start n) parts.first) i) (history (changes same (start n) (parts.first ++ parts.second)) i) =
        theorem.grows same n i parts.first parts.second (subst (AreGuarded same n []) (sym parts.whole) guarded) in
        subst (λ (ds : List V). IsBeginning ds (course_nodes moves i).stored.history) then_published
        (subst (IsBeginning (history (changes same (start n) parts.first) i)) (last_history i is_member)
        (subst (λ (x : List (Change V)). IsBeginning (history (changes same (start n) parts.first) i) (history (changes same (start n) x) i)) parts.whole grown))

  module _ (moves : List (Move V)) (are : AreMovesFromStart same n moves) (allowed : AreAllowed n [] moves) where
    -- a course's first moves are a course
    grows : (i k l : ℕ) → i < n → k ≤ l → IsBeginning (published_after moves k i) (published_after moves l i)
    grows i k l is_member later =
        let whole : take l moves ++ drop l moves ≡ moves = take-append-drop l moves in
        let are' : AreMovesFromStart same n (take l moves) =
        moves_first same n [] (λ j. new_node) (take l moves) (drop l moves) (subst (AreMovesFromStart same n) (sym whole) are) in
        let allowed' : AreAllowed n [] (take l moves) = allowed_first same n [] (take l moves) (drop l moves) (subst (AreAllowed n []) (sym whole) allowed) in
        subst (λ (x : List (Move V)). IsBeginning (course_nodes x i).stored.history (published_after moves l i)) (take-take k l moves later)
        (to_last (take l moves) are' allowed' i k is_member)

    course_agrees : CourseAgrees n moves
    course_agrees =
        let so = longest_of_all n (λ i. (course_nodes moves i).stored.history) (last_alike moves are allowed) in
        record {
          history = so.0;
          each = λ i k is_member. begins_through (published_after moves k i) (course_nodes moves i).stored.history so.0 (to_last moves are allowed i k is_member) (so.1 i is_member);
          one_definition = λ i j k l s c d is_member other_member at other.
              last_alike moves are allowed i j s c d is_member other_member
              (published_longer (published_after moves k i) (course_nodes moves i).stored.history s c (to_last moves are allowed i k is_member) at)
              (published_longer (published_after moves l j) (course_nodes moves j).stored.history s d (to_last moves are allowed j l other_member) other);
          grows = grows;
        }

pub courses_agree : (V : Type 0) → AgreementUnderGuard V → CoursesAgree V
courses_agree V theorem = λ same n moves are allowed. course_agrees theorem same n moves are allowed
