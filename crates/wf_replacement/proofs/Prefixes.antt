-- Lists cut at numbers, and moves of a course that is cut so.
use Rattle.std.proofs.Common.{◌≡◌, ◌≢◌, ℕ, suc, ◌+◌, ◌≤◌, Bool, List, [], ◌∷◌, ◌++◌, take, drop, slice_get, Some, refl, sym, ap, subst, ◌∙◌, arith, append-nil, append_assoc}
use Rattle.std.proofs.lemmas.List.{take-append-drop, take-take, append_cancel_left}
use Rattle.wf_model.specs.Message.{Message}
use Rattle.wf_model.specs.World.{Node}
use Rattle.wf_safety.specs.Theorems.{IsBeginning}
use Rattle.wf_trace.specs.Course.{Move, Entered, Renewed, process_moved, nodes_with, nodes_after, IsMove, AreOfOthers, IsAllowed, AreAllowed}
use Rattle.wf_trace.specs.Deed.{IsDone}
use Rattle.std.specs.Prelude.{None}

-- ---- lists

pub begins_through : {A : Type 0} (xs ys zs : List A) → IsBeginning xs ys → IsBeginning ys zs → IsBeginning xs zs
begins_through xs ys zs first second = (first.0 ++ second.0, sym (append_assoc xs first.0 second.0) ∙ ap (λ k. k ++ second.0) first.1 ∙ second.1)

pub begins_itself : {A : Type 0} (xs : List A) → IsBeginning xs xs
begins_itself xs = ([], append-nil xs)

-- up to k, and from there up to l
pub up_to : {A : Type 0} (k l : ℕ) (xs : List A) → k ≤ l → take k xs ++ drop k (take l xs) ≡ take l xs
up_to k l xs less = ap (λ ys. ys ++ drop k (take l xs)) (sym (take-take k l xs less)) ∙ take-append-drop k (take l xs)

-- from j to k, and from there to l
pub between : {A : Type 0} (j k l : ℕ) (xs : List A) → j ≤ k → k ≤ l → drop j (take k xs) ++ drop k (take l xs) ≡ drop j (take l xs)
between j k l xs first second =
    let through : j ≤ l = omega (arith, first, second) in
    append_cancel_left (take j xs) (drop j (take k xs) ++ drop k (take l xs)) (drop j (take l xs))
    (sym (append_assoc (take j xs) (drop j (take k xs)) (drop k (take l xs))) ∙ ap (λ ys. ys ++ drop k (take l xs)) (up_to j k xs first) ∙ up_to k l xs second ∙ sym (up_to j l xs through))

-- the same behind some others
pub up_to_behind : {A : Type 0} (front : List A) (k l : ℕ) (xs : List A) → k ≤ l → (front ++ take k xs) ++ drop k (take l xs) ≡ front ++ take l xs
up_to_behind front k l xs less = append_assoc front (take k xs) (drop k (take l xs)) ∙ ap (λ ys. front ++ ys) (up_to k l xs less)

-- ---- moves

module _ {V : Type 0} where
  pub nodes_in_turn : (nodes : ℕ → Node V) (moves later : List (Move V)) → nodes_after nodes (moves ++ later) ≡ nodes_after (nodes_after nodes moves) later
  unfolding nodes_after
  nodes_in_turn nodes [] later = refl
  nodes_in_turn nodes (move ∷ moves) later = nodes_in_turn (nodes_with nodes move) moves later

  -- a move depends on its process's node alone
  pub move_at : (same : V → V → Bool) (n : ℕ) (sent : List (Message V)) (nodes others : ℕ → Node V) (move : Move V) → nodes (process_moved move) ≡ others (process_moved move) →
      IsMove same n sent nodes move → IsMove same n sent others move
  move_at same n sent nodes others (Entered entry node) alike is = (is.0, subst (λ (x : Node V). IsDone same n entry.process x entry.deed entry.outputs node) alike is.1)
  move_at same n sent nodes others (Renewed i stored) alike is = subst (λ (x : Node V). x.volatile ≡ None) alike is

  -- each of some moves is of another process
  pub others_each : (i : ℕ) (moves : List (Move V)) → ((k : ℕ) (move : Move V) → slice_get moves k ≡ Some move → process_moved move ≢ i) → AreOfOthers i moves
  others_each i [] each = tt
  others_each i (move ∷ moves) each = (each 0 move refl, others_each i moves (λ k other at. each (suc k) other at))

  -- each of some moves is allowed
  pub allowed_each : (n : ℕ) (before moves : List (Move V)) → ((k : ℕ) (move : Move V) → slice_get moves k ≡ Some move → IsAllowed n (before ++ take k moves) move) → AreAllowed n before moves
  allowed_each n before [] each = tt
  allowed_each n before (move ∷ moves) each = (
    subst (λ (xs : List (Move V)). IsAllowed n xs move) (append-nil before) (each 0 move refl),
    allowed_each n (before ++ move ∷ []) moves (λ k other at. subst (λ (xs : List (Move V)). IsAllowed n xs other) (sym (append_assoc before (move ∷ []) (take k moves))) (each (suc k) other at)),
  )
