-- Entries of processes are moves, and two parts of a course are one.
use Rattle.std.proofs.Common.{◌≡◌, ℕ, ◌<◌, Bool, List, [], ◌∷◌, ◌++◌, None, refl, sym, ap, subst, ◌∙◌, inl, inr, append-nil, append_assoc}
use Rattle.std.proofs.lemmas.Bool.{cases_eq}
use Rattle.wf_model.specs.Message.{Message}
use Rattle.wf_model.specs.World.{Node}
use Rattle.wf_trace.specs.Deed.{IsDone}
use Rattle.wf_trace.specs.Trace.{Entry, of_process, outputs_by, GoOn}
use Rattle.wf_trace.specs.Course.{Move, Entered, Renewed, process_moved, outputs_of, outputs_through, nodes_with, nodes_after, IsMove, AreMoves, AreAllowed, AreMovesToo, EntriesAreMoves, AreOneCourse, CoursesAreOne}
use Rattle.wf_trace.proofs.Entries.{put_node, middle, own_life, rest_goes_on}
use Rattle.wf_trace.proofs.Course.{left_own, left_other, nodes_in_turn}

-- ---- entries

module _ {V : Type 0} (same : V → V → Bool) (n : ℕ) where
  no_entries : (sent : List (Message V)) (nodes after : ℕ → Node V) → GoOn same n sent nodes [] after → AreMovesToo same n sent nodes [] after
  unfolding of_process outputs_by outputs_through nodes_after
  no_entries sent nodes after go = record {
    moves = [];
    are_entries = tt;
    are_moves = tt;
    outputs = refl;
    nodes_left = λ i less. sym (go.lives i less);
    allowed = λ before. tt;
  }

  one_entry : (sent : List (Message V)) (nodes after : ℕ → Node V) (entry : Entry V) (entries : List (Entry V)) (go : GoOn same n sent nodes (entry ∷ entries) after) →
      AreMovesToo same n (sent ++ entry.outputs) (put_node nodes entry.process (middle same n sent nodes after entry entries go)) entries after →
      AreMovesToo same n sent nodes (entry ∷ entries) after
  unfolding put_node nodes_with nodes_after outputs_by outputs_through
  one_entry sent nodes after entry entries go more = record {
    moves = Entered entry (middle same n sent nodes after entry entries go) ∷ more.moves;
    are_entries = (refl, more.are_entries);
    are_moves = (go.members.0, (go.received.0, (own_life same n sent nodes after entry entries go).1), more.are_moves);
    outputs = ap (λ (ms : List (Message V)). entry.outputs ++ ms) more.outputs;
    nodes_left = more.nodes_left;
    allowed = λ before. (tt, more.allowed (before ++ Entered entry (middle same n sent nodes after entry entries go) ∷ []));
  }

  as_moves : (entries : List (Entry V)) (sent : List (Message V)) (nodes after : ℕ → Node V) → GoOn same n sent nodes entries after → AreMovesToo same n sent nodes entries after
  as_moves [] sent nodes after go = no_entries sent nodes after go
  as_moves (entry ∷ entries) sent nodes after go =
      one_entry sent nodes after entry entries go
      (as_moves entries (sent ++ entry.outputs) (put_node nodes entry.process (middle same n sent nodes after entry entries go)) after (rest_goes_on same n sent nodes after entry entries go))

pub entries_are_moves : (V : Type 0) → EntriesAreMoves V
entries_are_moves V = λ same n sent nodes after entries go. as_moves same n entries sent nodes after go

-- ---- nodes that are alike

module _ {V : Type 0} (same : V → V → Bool) (n : ℕ) where
  abbrev Alike : (ℕ → Node V) → (ℕ → Node V) → Type 0
  Alike nodes others = (i : ℕ) → i < n → nodes i ≡ others i

  with_alike : (nodes others : ℕ → Node V) (move : Move V) → Alike nodes others → Alike (nodes_with nodes move) (nodes_with others move)
  with_alike nodes others move alike = λ j less. elim (cases_eq j (process_moved move)) [
    | inl own ↦ left_own nodes move j own ∙ sym (left_own others move j own)
    | inr other ↦ left_other nodes move j other ∙ alike j less ∙ sym (left_other others move j other)
  ]

  after_alike : (nodes others : ℕ → Node V) (moves : List (Move V)) → Alike nodes others → Alike (nodes_after nodes moves) (nodes_after others moves)
  unfolding nodes_after
  after_alike nodes others [] alike = alike
  after_alike nodes others (move ∷ moves) alike = after_alike (nodes_with nodes move) (nodes_with others move) moves (with_alike nodes others move alike)

  move_alike : (sent : List (Message V)) (nodes others : ℕ → Node V) (move : Move V) → process_moved move < n → Alike nodes others → IsMove same n sent nodes move → IsMove same n sent others move
  move_alike sent nodes others (Entered entry node) is_member alike is =
      (is.0, subst (λ (x : Node V). IsDone same n entry.process x entry.deed entry.outputs node) (alike entry.process is_member) is.1)
  move_alike sent nodes others (Renewed i stored) is_member alike is = subst (λ (x : Node V). x.volatile ≡ None) (alike i is_member) is

  moves_alike : (sent : List (Message V)) (nodes others : ℕ → Node V) (moves : List (Move V)) → Alike nodes others → AreMoves same n sent nodes moves → AreMoves same n sent others moves
  moves_alike sent nodes others [] alike are = tt
  moves_alike sent nodes others (move ∷ moves) alike are = (
    are.0,
    move_alike sent nodes others move are.0 alike are.1,
    moves_alike (sent ++ outputs_of move) (nodes_with nodes move) (nodes_with others move) moves (with_alike nodes others move alike) are.2,
  )

  -- ---- two parts

  moves_both : (sent : List (Message V)) (nodes : ℕ → Node V) (moves later : List (Move V)) → AreMoves same n sent nodes moves →
      AreMoves same n (sent ++ outputs_through moves) (nodes_after nodes moves) later → AreMoves same n sent nodes (moves ++ later)
  unfolding nodes_after outputs_through
  moves_both sent nodes [] later are more = subst (λ (ms : List (Message V)). AreMoves same n ms nodes later) (append-nil sent) more
  moves_both sent nodes (move ∷ moves) later are more = (
    are.0,
    are.1,
    moves_both (sent ++ outputs_of move) (nodes_with nodes move) moves later are.2
        (subst (λ (ms : List (Message V)). AreMoves same n ms (nodes_after (nodes_with nodes move) moves) later) (sym (append_assoc sent (outputs_of move) (outputs_through moves))) more),
  )

  pub moves_first : (sent : List (Message V)) (nodes : ℕ → Node V) (moves later : List (Move V)) → AreMoves same n sent nodes (moves ++ later) → AreMoves same n sent nodes moves
  moves_first sent nodes [] later are = tt
  moves_first sent nodes (move ∷ moves) later are = (are.0, are.1, moves_first (sent ++ outputs_of move) (nodes_with nodes move) moves later are.2)

  outputs_both : (moves later : List (Move V)) → outputs_through (moves ++ later) ≡ outputs_through moves ++ outputs_through later
  unfolding outputs_through
  outputs_both [] later = refl
  outputs_both (move ∷ moves) later = ap (λ (ms : List (Message V)). outputs_of move ++ ms) (outputs_both moves later) ∙ sym (append_assoc (outputs_of move) (outputs_through moves) (outputs_through later))

  allowed_both : (before moves later : List (Move V)) → AreAllowed n before moves → AreAllowed n (before ++ moves) later → AreAllowed n before (moves ++ later)
  allowed_both before [] later allowed more = subst (λ (x : List (Move V)). AreAllowed n x later) (append-nil before) more
  allowed_both before (move ∷ moves) later allowed more =
      (allowed.0, allowed_both (before ++ move ∷ []) moves later allowed.1 (subst (λ (x : List (Move V)). AreAllowed n x later) (sym (append_assoc before (move ∷ []) moves)) more))

  pub allowed_first : (before moves later : List (Move V)) → AreAllowed n before (moves ++ later) → AreAllowed n before moves
  allowed_first before [] later allowed = tt
  allowed_first before (move ∷ moves) later allowed = (allowed.0, allowed_first (before ++ move ∷ []) moves later allowed.1)

  one_course : (sent : List (Message V)) (nodes now : ℕ → Node V) (moves later : List (Move V)) → AreMoves same n sent nodes moves → Alike now (nodes_after nodes moves) →
      AreMoves same n (sent ++ outputs_through moves) now later → AreOneCourse same n sent nodes now moves later
  one_course sent nodes now moves later are alike more = record {
    are_moves = moves_both sent nodes moves later are (moves_alike (sent ++ outputs_through moves) now (nodes_after nodes moves) later alike more);
    outputs = outputs_both moves later;
    nodes_left = λ i some less. ap (λ (x : ℕ → Node V). x i) (nodes_in_turn nodes moves some) ∙ sym (after_alike now (nodes_after nodes moves) some alike i less);
    allowed = λ before allowed later_allowed. allowed_both before moves later allowed later_allowed;
  }

pub courses_are_one : (V : Type 0) → CoursesAreOne V
courses_are_one V = λ same n sent nodes now moves later are alike more. one_course same n sent nodes now moves later are alike more
