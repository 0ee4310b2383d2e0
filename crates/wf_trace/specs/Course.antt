-- Courses: what several processes do in one order of time, where a process that lost its disk goes
-- on from another stored state; and the theorems about them.
use Rattle.std.specs.Prelude.{◌≡◌, ◌≢◌, ℕ, ◌*◌, ◌<◌, ◌≤◌, ◌==◌, Bool, true, ⊤, List, [], ◌∷◌, ◌++◌, take, Some, None, if◌then◌else◌}
use Rattle.wf_ballot.specs.Majority.{count_nodes}
use Rattle.wf_safety.specs.Theorems.{IsBeginning}
use Rattle.wf_safety.specs.Replacement.{Change, after_changes, IsCopy, IsUpTo, HasWindowAfter, AreGuarded}
use Rattle.wf_model.specs.Message.{Message}
use Rattle.wf_model.specs.DurableState.{DurableState, definition_at}
use Rattle.wf_model.specs.World.{Node}
use Rattle.wf_trace.specs.Deed.{IsDone, new_node}
use Rattle.wf_trace.specs.Trace.{Entry, outputs_by, DeliversOneOf, GoOn, Refines}

-- A move: a process does what the entry says, and its node is this one then; or a stopped process
-- goes on from this stored state.
pub data Move (V : Type 0) : Type 0 where
  Entered : (entry : Entry V) (node : Node V) → Move V
  Renewed : (process : ℕ) (stored : DurableState V) → Move V

abbrev pub process_moved : {V : Type 0} → Move V → ℕ
process_moved (Entered entry node) = entry.process
process_moved (Renewed i stored) = i

-- the messages that a move sends, and all that moves send, in their order
abbrev pub outputs_of : {V : Type 0} → Move V → List (Message V)
outputs_of (Entered entry node) = entry.outputs
outputs_of (Renewed i stored) = []

unfoldable pub outputs_through : {V : Type 0} → List (Move V) → List (Message V)
outputs_through [] = []
outputs_through (move ∷ moves) = outputs_of move ++ outputs_through moves

-- the node of a move's process after it
abbrev pub node_left : {V : Type 0} → Move V → Node V
node_left (Entered entry node) = node
node_left (Renewed i stored) = record { stored = stored; volatile = None }

-- all nodes after one move, and after several
unfoldable pub nodes_with : {V : Type 0} → (ℕ → Node V) → Move V → ℕ → Node V
nodes_with nodes move j = if j == process_moved move then node_left move else nodes j

unfoldable pub nodes_after : {V : Type 0} → (ℕ → Node V) → List (Move V) → ℕ → Node V
nodes_after nodes [] = nodes
nodes_after nodes (move ∷ moves) = nodes_after (nodes_with nodes move) moves

-- A process does what its node may do, and each message that is delivered was sent before. Only a
-- stopped process is replaced.
abbrev pub IsMove : {V : Type 0} → (V → V → Bool) → ℕ → List (Message V) → (ℕ → Node V) → Move V → Type 0
IsMove same n sent nodes (Entered entry node) = DeliversOneOf sent entry.deed × IsDone same n entry.process (nodes entry.process) entry.deed entry.outputs node
IsMove same n sent nodes (Renewed i stored) = (nodes i).volatile ≡ None

-- Each is a move of one of the n processes, where these messages were sent and these are the nodes
-- at first.
abbrev pub AreMoves : {V : Type 0} → (V → V → Bool) → ℕ → List (Message V) → (ℕ → Node V) → List (Move V) → Type 0
AreMoves same n sent nodes [] = ⊤
AreMoves same n sent nodes (move ∷ moves) = (process_moved move < n) × IsMove same n sent nodes move × AreMoves same n (sent ++ outputs_of move) (nodes_with nodes move) moves

-- A course: all processes are new at first, and nothing was sent.
abbrev pub AreMovesFromStart : {V : Type 0} → (V → V → Bool) → ℕ → List (Move V) → Type 0
AreMovesFromStart same n moves = AreMoves same n [] (λ i. new_node) moves

-- the nodes after these moves of a course
abbrev pub course_nodes : {V : Type 0} → List (Move V) → ℕ → Node V
course_nodes moves = nodes_after (λ i. new_node) moves

-- what process i has published after the first k moves of a course
abbrev pub published_after : {V : Type 0} → List (Move V) → ℕ → ℕ → List V
published_after moves k i = (course_nodes (take k moves) i).stored.history

-- ---- the guard

-- none of the moves is of process i
abbrev pub AreOfOthers : {V : Type 0} → ℕ → List (Move V) → Type 0
AreOfOthers i [] = ⊤
AreOfOthers i (move ∷ moves) = (process_moved move ≢ i) × AreOfOthers i moves

-- At some moment of these moves, from these nodes on, process j had published nothing after m, and
-- stored no vote after m.
pub record WasUpTo {V : Type 0} (nodes : ℕ → Node V) (since : List (Move V)) (m j : ℕ) : Type 0 where
  pub earlier : List (Move V)
  pub later : List (Move V)
  pub moment : earlier ++ later ≡ since
  pub up_to : IsUpTo (nodes_after nodes earlier j).stored m

-- Process i may go on from this stored state after these moves: since it did anything, at least
-- half of all n processes were asked, each at a moment of its own, and were up to m; and the state
-- is a copy of what some process had published by then, up to a window after m.
pub record MayReplace {V : Type 0} (n : ℕ) (moves : List (Move V)) (i : ℕ) (stored : DurableState V) : Type 0 where
  pub before : List (Move V)
  pub since : List (Move V)
  pub parts : before ++ since ≡ moves
  pub silent : AreOfOthers i since
  pub m : ℕ
  pub asked : ℕ → Bool
  pub half : n ≤ 2 * count_nodes n asked
  pub each : (j : ℕ) → j < n → asked j ≡ true → WasUpTo (course_nodes before) since m j
  pub copy : IsCopy stored
  pub known : List (Move V)
  pub rest : List (Move V)
  pub by_then : known ++ rest ≡ moves
  pub source : ℕ
  pub is_member : source < n
  pub copied : IsBeginning stored.history (course_nodes known source).stored.history
  pub far : HasWindowAfter m stored

abbrev pub IsAllowed : {V : Type 0} → ℕ → List (Move V) → Move V → Type 0
IsAllowed n before (Entered entry node) = ⊤
IsAllowed n before (Renewed i stored) = MayReplace n before i stored

-- each replacement among the moves, after those before it
abbrev pub AreAllowed : {V : Type 0} → ℕ → List (Move V) → List (Move V) → Type 0
AreAllowed n before [] = ⊤
AreAllowed n before (move ∷ moves) = IsAllowed n before move × AreAllowed n (before ++ move ∷ []) moves

-- ---- the theorems

-- some changes of the model lead from the start of n nodes to the nodes after the moves, with
-- exactly the messages that they sent
pub record IsRunWithReplacements {V : Type 0} (same : V → V → Bool) (n : ℕ) (moves : List (Move V)) : Type 0 where
  pub changes : List (Change V)
  pub refines : Refines n (course_nodes moves) (outputs_through moves) (after_changes same n changes)
  pub guarded : AreAllowed n [] moves → AreGuarded same n [] changes

-- A course is a run of the model, with replacements; where each is allowed, each is guarded.
abbrev pub CourseIsRun : Type 0 → Type 0
CourseIsRun V = (same : V → V → Bool) (n : ℕ) (moves : List (Move V)) → AreMovesFromStart same n moves → IsRunWithReplacements same n moves

-- what a course's processes have published, at any moments
pub record CourseAgrees {V : Type 0} (n : ℕ) (moves : List (Move V)) : Type 0 where
  -- there is one history, of which each list, at each moment, is a beginning
  pub history : List V
  pub each : (i k : ℕ) → i < n → IsBeginning (published_after moves k i) history
  -- no two lists have different definitions under one sequence
  pub one_definition : (i j k l s : ℕ) (c d : V) → i < n → j < n → definition_at (published_after moves k i) s ≡ Some c → definition_at (published_after moves l j) s ≡ Some d → c ≡ d
  -- no list loses a definition, through replacements too
  pub grows : (i k l : ℕ) → i < n → k ≤ l → IsBeginning (published_after moves k i) (published_after moves l i)

-- So it is of each course in which each replacement is allowed.
abbrev pub CoursesAgree : Type 0 → Type 0
CoursesAgree V = (same : V → V → Bool) (n : ℕ) (moves : List (Move V)) → AreMovesFromStart same n moves → AreAllowed n [] moves → CourseAgrees n moves

-- ---- moves of processes

-- the moves are these entries, without a replacement
abbrev pub AreEntries : {V : Type 0} → List (Move V) → List (Entry V) → Type 0
AreEntries [] [] = ⊤
AreEntries [] (entry ∷ entries) = ⊥
AreEntries (Entered entry node ∷ moves) [] = ⊥
AreEntries (Entered entry node ∷ moves) (first ∷ entries) = (entry ≡ first) × AreEntries moves entries
AreEntries (Renewed i stored ∷ moves) entries = ⊥

-- the entries as moves, which lead to the same nodes, send the same messages, and are allowed
-- wherever they are made
pub record AreMovesToo {V : Type 0} (same : V → V → Bool) (n : ℕ) (sent : List (Message V)) (nodes : ℕ → Node V) (entries : List (Entry V)) (after : ℕ → Node V) : Type 0 where
  pub moves : List (Move V)
  pub are_entries : AreEntries moves entries
  pub are_moves : AreMoves same n sent nodes moves
  pub outputs : outputs_through moves ≡ outputs_by entries
  pub nodes_left : (i : ℕ) → i < n → nodes_after nodes moves i ≡ after i
  pub allowed : (before : List (Move V)) → AreAllowed n before moves

-- Entries that go on from some nodes and messages are moves. So a trace is a course, and a part of
-- one is a part of a course.
abbrev pub EntriesAreMoves : Type 0 → Type 0
EntriesAreMoves V = (same : V → V → Bool) (n : ℕ) (sent : List (Message V)) (nodes after : ℕ → Node V) (entries : List (Entry V)) → GoOn same n sent nodes entries after → AreMovesToo same n sent nodes entries after

-- the second moves begin at these nodes, where the first ones end
pub record AreOneCourse {V : Type 0} (same : V → V → Bool) (n : ℕ) (sent : List (Message V)) (nodes now : ℕ → Node V) (moves later : List (Move V)) : Type 0 where
  pub are_moves : AreMoves same n sent nodes (moves ++ later)
  pub outputs : outputs_through (moves ++ later) ≡ outputs_through moves ++ outputs_through later
  -- after all of the first and some more
  pub nodes_left : (i : ℕ) (some : List (Move V)) → i < n → nodes_after nodes (moves ++ some) i ≡ nodes_after now some i
  pub allowed : (before : List (Move V)) → AreAllowed n before moves → AreAllowed n (before ++ moves) later → AreAllowed n before (moves ++ later)

-- Two parts of a course, one after the other, are one.
abbrev pub CoursesAreOne : Type 0 → Type 0
CoursesAreOne V = (same : V → V → Bool) (n : ℕ) (sent : List (Message V)) (nodes now : ℕ → Node V) (moves later : List (Move V)) →
    AreMoves same n sent nodes moves → ((i : ℕ) → i < n → now i ≡ nodes_after nodes moves i) → AreMoves same n (sent ++ outputs_through moves) now later →
    AreOneCourse same n sent nodes now moves later
