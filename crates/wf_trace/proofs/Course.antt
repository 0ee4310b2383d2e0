-- A course is a run of the model, with replacements; where each is allowed, each is guarded.
use Rattle.std.proofs.Common.{◌≡◌, ◌≢◌, ℕ, ◌<◌, Bool, List, [], ◌∷◌, ◌++◌, slice_get, slice_set, length-set, Option, Some, None, refl, sym, ap, subst, ◌∙◌, inl, inr, append-nil, append_assoc, eq-eqb, ne_eqb}
use Rattle.std.proofs.lemmas.Bool.{cases_eq}
use Rattle.std.proofs.lemmas.List.{length-replicate}
use Rattle.wf_model.specs.Message.{Message}
use Rattle.wf_model.specs.DurableState.{DurableState}
use Rattle.wf_model.specs.World.{Node, World, Event, with_node, steps, happens, start}
use Rattle.wf_model.specs.Chosen.{history_of, history}
use Rattle.wf_safety.specs.Theorems.{IsBeginning}
use Rattle.wf_safety.specs.Replacement.{Change, Occurs, replace_stopped, after_replacement, world_changed, changes, after_changes, without_loss, IsUpTo, HeldOnce, AreElsewhere, IsGuarded, AreGuarded}
use Rattle.wf_safety.specs.Replacement as change
use Rattle.wf_trace.specs.Deed.{IsDone, new_node}
use Rattle.wf_trace.specs.Trace.{Entry, DeliversOneOf, Refines}
use Rattle.wf_trace.specs.Course.{Move, Entered, Renewed, process_moved, outputs_of, outputs_through, node_left, nodes_with, nodes_after, IsMove, AreMoves, AreOfOthers, WasUpTo, MayReplace, IsAllowed, AreAllowed, CourseIsRun}
use Rattle.wf_trace.proofs.Nodes.{set_there, set_elsewhere, all_alike}
use Rattle.wf_trace.proofs.Deeds.{AreEventsOf, Becomes, deed_is_events}

-- ---- the nodes, one of them changed

pub left_own : {V : Type 0} (nodes : ℕ → Node V) (move : Move V) (j : ℕ) → j ≡ process_moved move → nodes_with nodes move j ≡ node_left move
unfolding nodes_with
left_own nodes move j same = rw (eq-eqb j (process_moved move) same) refl

pub left_other : {V : Type 0} (nodes : ℕ → Node V) (move : Move V) (j : ℕ) → j ≢ process_moved move → nodes_with nodes move j ≡ nodes j
unfolding nodes_with
left_other nodes move j differs = rw (ne_eqb j (process_moved move) differs) refl

pub nodes_in_turn : {V : Type 0} (nodes : ℕ → Node V) (moves later : List (Move V)) → nodes_after nodes (moves ++ later) ≡ nodes_after (nodes_after nodes moves) later
unfolding nodes_after
nodes_in_turn nodes [] later = refl
nodes_in_turn nodes (move ∷ moves) later = nodes_in_turn (nodes_with nodes move) moves later

-- ---- changes in turn

pub changes_in_turn : {V : Type 0} (same : V → V → Bool) (w : World V) (list more : List (Change V)) → changes same w (list ++ more) ≡ changes same (changes same w list) more
unfolding changes
changes_in_turn same w [] more = refl
changes_in_turn same w (one ∷ rest) more = changes_in_turn same (world_changed same w one) rest more

events_same : {V : Type 0} (same : V → V → Bool) (w : World V) (events : List (Event V)) → changes same w (without_loss events) ≡ steps same w events
unfolding changes world_changed without_loss steps
events_same same w [] = refl
events_same same w (event ∷ events) = events_same same (happens same w event) events

elsewhere_both : {V : Type 0} (i : ℕ) (list more : List (Change V)) → AreElsewhere i list → AreElsewhere i more → AreElsewhere i (list ++ more)
elsewhere_both i [] more are later = later
elsewhere_both i (one ∷ rest) more are later = (are.0, elsewhere_both i rest more are.1 later)

elsewhere_events : {V : Type 0} (p i : ℕ) (events : List (Event V)) → AreEventsOf p events → p ≢ i → AreElsewhere i (without_loss events)
unfolding without_loss
elsewhere_events p i [] own differs = tt
elsewhere_events p i (event ∷ events) own differs = ((λ e. differs (sym own.0 ∙ e)), elsewhere_events p i events own.1 differs)

-- ---- the changes of moves

-- the world has these n nodes
pub record Shows {V : Type 0} (n : ℕ) (nodes : ℕ → Node V) (w : World V) : Type 0 where
  pub each : (i : ℕ) → i < n → slice_get w.nodes i ≡ Some (nodes i)

-- a move's changes: some events of its process, or its replacement
pub record AreEventsAlone {V : Type 0} (i : ℕ) (chunk : List (Change V)) : Type 0 where
  events : List (Event V)
  own : AreEventsOf i events
  alone : chunk ≡ without_loss events

abbrev pub IsChunk : {V : Type 0} → Move V → List (Change V) → Type 0
IsChunk (Entered entry node) chunk = AreEventsAlone entry.process chunk
IsChunk (Renewed i stored) chunk = chunk ≡ change.Replaces i stored ∷ []

-- The changes are those of the moves, one after the other, and after each the world has the nodes
-- that the move left.
abbrev pub AreShown : {V : Type 0} → (V → V → Bool) → ℕ → World V → (ℕ → Node V) → List (Move V) → List (Change V) → Type 0
AreShown same n w nodes [] list = list ≡ []
AreShown {V} same n w nodes (move ∷ moves) list =
    (chunk : List (Change V)) × (rest : List (Change V)) × (chunk ++ rest ≡ list) × IsChunk move chunk × Shows n (nodes_with nodes move) (changes same w chunk)
    × AreShown same n (changes same w chunk) (nodes_with nodes move) moves rest

module _ {V : Type 0} (same : V → V → Bool) (n : ℕ) where
  -- after all moves
  shows_end : (w : World V) (nodes : ℕ → Node V) (moves : List (Move V)) (list : List (Change V)) → Shows n nodes w → AreShown same n w nodes moves list →
      Shows n (nodes_after nodes moves) (changes same w list)
  unfolding nodes_after changes
  shows_end w nodes [] list shows shown = subst (λ (x : List (Change V)). Shows n nodes (changes same w x)) (sym shown) shows
  shows_end w nodes (move ∷ moves) list shows (chunk, rest, whole, is, shows_next, shown) =
      subst (λ (x : List (Change V)). Shows n (nodes_after (nodes_with nodes move) moves) (changes same w x)) whole
      (subst (λ (x : World V). Shows n (nodes_after (nodes_with nodes move) moves) x) (sym (changes_in_turn same w chunk rest))
      (shows_end (changes same w chunk) (nodes_with nodes move) moves rest shows_next shown))

  -- the changes of two parts
  pub record Parts (w : World V) (nodes : ℕ → Node V) (moves later : List (Move V)) (list : List (Change V)) : Type 0 where
    pub first : List (Change V)
    pub second : List (Change V)
    pub whole : first ++ second ≡ list
    pub is_first : AreShown same n w nodes moves first
    pub is_second : AreShown same n (changes same w first) (nodes_after nodes moves) later second

  pub split : (w : World V) (nodes : ℕ → Node V) (moves later : List (Move V)) (list : List (Change V)) → AreShown same n w nodes (moves ++ later) list → Parts w nodes moves later list
  unfolding nodes_after changes
  split w nodes [] later list shown = record { first = []; second = list; whole = refl; is_first = refl; is_second = shown }
  split w nodes (move ∷ moves) later list (chunk, rest, whole, is, shows_next, shown) =
      let parts : Parts (changes same w chunk) (nodes_with nodes move) moves later rest = split (changes same w chunk) (nodes_with nodes move) moves later rest shown in
      record {
        first = chunk ++ parts.first;
        second = parts.second;
        whole = append_assoc chunk parts.first parts.second ∙ ap (λ (x : List (Change V)). chunk ++ x) parts.whole ∙ whole;
        is_first = (chunk, parts.first, refl, is, shows_next, parts.is_first);
        is_second = subst (λ (x : World V). AreShown same n x (nodes_after (nodes_with nodes move) moves) later parts.second) (sym (changes_in_turn same w chunk parts.first)) parts.is_second;
      }

  pub split_at : (w : World V) (nodes : ℕ → Node V) (moves later all : List (Move V)) (list : List (Change V)) → moves ++ later ≡ all → AreShown same n w nodes all list → Parts w nodes moves later list
  split_at w nodes moves later all list e shown = split w nodes moves later list (subst (λ (x : List (Move V)). AreShown same n w nodes x list) (sym e) shown)

  -- one more move
  join : (w : World V) (nodes : ℕ → Node V) (moves later : List (Move V)) (first second : List (Change V)) → AreShown same n w nodes moves first →
      AreShown same n (changes same w first) (nodes_after nodes moves) later second → AreShown same n w nodes (moves ++ later) (first ++ second)
  unfolding nodes_after changes
  join w nodes [] later first second shown more =
      subst (λ (x : List (Change V)). AreShown same n w nodes later (x ++ second)) (sym shown)
      (subst (λ (x : List (Change V)). AreShown same n (changes same w x) nodes later second) shown more)
  join w nodes (move ∷ moves) later first second (chunk, rest, whole, is, shows_next, shown) more = (
    chunk,
    rest ++ second,
    (sym (append_assoc chunk rest second) ∙ ap (λ (x : List (Change V)). x ++ second) whole),
    is,
    shows_next,
    join (changes same w chunk) (nodes_with nodes move) moves later rest second shown
        (subst (λ (x : World V). AreShown same n x (nodes_after (nodes_with nodes move) moves) later second) (changes_in_turn same w chunk rest)
        (subst (λ (x : List (Change V)). AreShown same n (changes same w x) (nodes_after (nodes_with nodes move) moves) later second) (sym whole) more)),
  )

  -- moves of others are changes elsewhere
  chunk_elsewhere : (i : ℕ) (move : Move V) (chunk : List (Change V)) → process_moved move ≢ i → IsChunk move chunk → AreElsewhere i chunk
  chunk_elsewhere i (Entered entry node) chunk differs is = subst (AreElsewhere i) (sym is.alone) (elsewhere_events entry.process i is.events is.own differs)
  chunk_elsewhere i (Renewed p stored) chunk differs is = subst (AreElsewhere i) (sym is) (differs, tt)

  elsewhere : (w : World V) (nodes : ℕ → Node V) (i : ℕ) (moves : List (Move V)) (list : List (Change V)) → AreOfOthers i moves → AreShown same n w nodes moves list → AreElsewhere i list
  elsewhere w nodes i [] list others shown = subst (AreElsewhere i) (sym shown) tt
  elsewhere w nodes i (move ∷ moves) list others (chunk, rest, whole, is, shows_next, shown) =
      subst (AreElsewhere i) whole (elsewhere_both i chunk rest (chunk_elsewhere i move chunk others.0 is) (elsewhere (changes same w chunk) (nodes_with nodes move) i moves rest others.1 shown))

-- ---- one move

-- the changes of a move, which lead to a world with the nodes that the move leaves
record Made {V : Type 0} (same : V → V → Bool) (n : ℕ) (sent : List (Message V)) (nodes : ℕ → Node V) (w : World V) (move : Move V) : Type 0 where
  chunk : List (Change V)
  is : IsChunk move chunk
  refines_next : Refines n (nodes_with nodes move) (sent ++ outputs_of move) (changes same w chunk)

module _ {V : Type 0} (same : V → V → Bool) (n : ℕ) (sent : List (Message V)) (nodes : ℕ → Node V) (w : World V) (refines : Refines n nodes sent w) where
  -- one node is set
  there : (move : Move V) (j : ℕ) → process_moved move < n → j < n → slice_get (slice_set w.nodes (process_moved move) (node_left move)) j ≡ Some (nodes_with nodes move j)
  there move j is_member less = elim (cases_eq j (process_moved move)) [
    | inl own ↦ subst (λ k. slice_get (slice_set w.nodes (process_moved move) (node_left move)) k ≡ Some (nodes_with nodes move k)) (sym own)
        (set_there w.nodes (process_moved move) (node_left move) (nodes (process_moved move)) (refines.each (process_moved move) is_member) ∙ ap Some (sym (left_own nodes move (process_moved move) refl)))
    | inr other ↦ set_elsewhere w.nodes (process_moved move) j (node_left move) other ∙ refines.each j less ∙ ap Some (sym (left_other nodes move j other))
  ]

  abbrev world_with : Move V → World V
  world_with move = record { nodes = slice_set w.nodes (process_moved move) (node_left move); sent = w.sent ++ outputs_of move }

  refines_with : (move : Move V) → process_moved move < n → Refines n (nodes_with nodes move) (sent ++ outputs_of move) (world_with move)
  refines_with move is_member = record {
    as_many = length-set w.nodes (process_moved move) (node_left move) ∙ refines.as_many;
    each = λ j less. there move j is_member less;
    messages = ap (λ (ms : List (Message V)). ms ++ outputs_of move) refines.messages;
  }

  done : (entry : Entry V) (node : Node V) → entry.process < n → IsMove same n sent nodes (Entered entry node) → Made same n sent nodes w (Entered entry node)
  done entry node is_member is =
      let becomes : Becomes same w entry.process node entry.outputs =
      deed_is_events same w entry.process (nodes entry.process) (refines.each entry.process is_member) entry.deed entry.outputs node
      (subst (λ (ms : List (Message V)). DeliversOneOf ms entry.deed) (sym refines.messages) is.0)
      (subst (λ k. IsDone same k entry.process (nodes entry.process) entry.deed entry.outputs node) (sym refines.as_many) is.1) in
      record {
        chunk = without_loss becomes.events;
        is = record { events = becomes.events; own = becomes.own; alone = refl };
        refines_next = subst (λ (x : World V). Refines n (nodes_with nodes (Entered entry node)) (sent ++ entry.outputs) x)
            (sym (events_same same w becomes.events ∙ becomes.world)) (refines_with (Entered entry node) is_member);
      }

  -- a stopped node is replaced
  replace_none : (i : ℕ) (stored : DurableState V) → replace_stopped w i stored None ≡ with_node w i stored None
  unfolding replace_stopped
  replace_none i stored = refl

  replaced_by : (i : ℕ) (stored : DurableState V) (node : Option (Node V)) (old : Node V) → node ≡ Some old → old.volatile ≡ None →
      after_replacement w i stored node ≡ with_node w i stored None
  unfolding after_replacement
  replaced_by i stored None old e stopped = absurd cc
  replaced_by i stored (Some node) old e stopped =
      let same_node : node ≡ old = cc in
      ap (replace_stopped w i stored) (ap (λ (x : Node V). x.volatile) same_node ∙ stopped) ∙ replace_none i stored

  replaced_world : (i : ℕ) (stored : DurableState V) → with_node w i stored None ≡ world_with (Renewed i stored)
  unfolding with_node
  replaced_world i stored = ap (λ (ms : List (Message V)). record { nodes = slice_set w.nodes i (record { stored = stored; volatile = None }); sent = ms }) (sym (append-nil w.sent))

  one_change : (i : ℕ) (stored : DurableState V) → changes same w (change.Replaces i stored ∷ []) ≡ after_replacement w i stored (slice_get w.nodes i)
  unfolding changes world_changed
  one_change i stored = refl

  replaced : (i : ℕ) (stored : DurableState V) → i < n → (nodes i).volatile ≡ None → Made same n sent nodes w (Renewed i stored)
  replaced i stored is_member stopped = record {
    chunk = change.Replaces i stored ∷ [];
    is = refl;
    refines_next = subst (λ (x : World V). Refines n (nodes_with nodes (Renewed i stored)) (sent ++ []) x)
        (sym (one_change i stored ∙ replaced_by i stored (slice_get w.nodes i) (nodes i) (refines.each i is_member) stopped ∙ replaced_world i stored))
        (refines_with (Renewed i stored) is_member);
  }

  made : (move : Move V) → process_moved move < n → IsMove same n sent nodes move → Made same n sent nodes w move
  made (Entered entry node) is_member is = done entry node is_member is
  made (Renewed i stored) is_member is = replaced i stored is_member is

-- ---- all moves

-- the changes of the moves, and where they lead
pub record Shown {V : Type 0} (same : V → V → Bool) (n : ℕ) (sent : List (Message V)) (nodes : ℕ → Node V) (w : World V) (moves : List (Move V)) : Type 0 where
  pub list : List (Change V)
  pub are_shown : AreShown same n w nodes moves list
  pub refines : Refines n (nodes_after nodes moves) (sent ++ outputs_through moves) (changes same w list)

module _ {V : Type 0} (same : V → V → Bool) (n : ℕ) where
  shown_first : (sent : List (Message V)) (nodes : ℕ → Node V) (w : World V) (move : Move V) (moves : List (Move V)) (one : Made same n sent nodes w move) →
      Shown same n (sent ++ outputs_of move) (nodes_with nodes move) (changes same w one.chunk) moves → Shown same n sent nodes w (move ∷ moves)
  unfolding nodes_after outputs_through
  shown_first sent nodes w move moves one more = record {
    list = one.chunk ++ more.list;
    are_shown = (one.chunk, more.list, refl, one.is, record { each = one.refines_next.each }, more.are_shown);
    refines = subst (λ (x : World V). Refines n (nodes_after (nodes_with nodes move) moves) (sent ++ (outputs_of move ++ outputs_through moves)) x) (sym (changes_in_turn same w one.chunk more.list))
        (subst (λ (ms : List (Message V)). Refines n (nodes_after (nodes_with nodes move) moves) ms (changes same (changes same w one.chunk) more.list))
        (append_assoc sent (outputs_of move) (outputs_through moves)) more.refines);
  }

  shown_none : (sent : List (Message V)) (nodes : ℕ → Node V) (w : World V) → Refines n nodes sent w → Shown same n sent nodes w []
  unfolding nodes_after outputs_through changes
  shown_none sent nodes w refines = record {
    list = [];
    are_shown = refl;
    refines = subst (λ (ms : List (Message V)). Refines n nodes ms w) (sym (append-nil sent)) refines;
  }

  pub show : (moves : List (Move V)) (sent : List (Message V)) (nodes : ℕ → Node V) (w : World V) → AreMoves same n sent nodes moves → Refines n nodes sent w → Shown same n sent nodes w moves
  show [] sent nodes w are refines = shown_none sent nodes w refines
  show (move ∷ moves) sent nodes w are refines =
      let one : Made same n sent nodes w move = made same n sent nodes w refines move are.0 are.1 in
      shown_first sent nodes w move moves one (show moves (sent ++ outputs_of move) (nodes_with nodes move) (changes same w one.chunk) are.2 one.refines_next)

  starts : Refines {V = V} n (λ i. new_node) [] (start n)
  unfolding start
  starts = record { as_many = length-replicate n _; each = λ i less. all_alike n i _ less; messages = refl }

  pub show_course : (moves : List (Move V)) → AreMoves same n [] (λ i. new_node) moves → Shown same n [] (λ i. new_node) (start n) moves
  show_course moves are = show moves [] (λ i. new_node) (start n) are starts

-- ---- each allowed replacement is guarded

module _ {V : Type 0} (same : V → V → Bool) (n : ℕ) where
  abbrev new_nodes : ℕ → Node V
  new_nodes i = new_node

  -- the world after these changes from the start has the nodes after these moves
  pub shows_after : (moves : List (Move V)) (list : List (Change V)) → AreShown same n (start n) new_nodes moves list → Shows n (nodes_after new_nodes moves) (changes same (start n) list)
  shows_after moves list shown = shows_end same n (start n) new_nodes moves list (record { each = (starts same n).each }) shown

  pub history_after : (i : ℕ) (nodes : ℕ → Node V) (w : World V) → i < n → Shows n nodes w → history w i ≡ (nodes i).stored.history
  unfolding history history_of
  history_after i nodes w is_member shows = ap history_of (shows.each i is_member)

  was_held : (w : World V) (nodes : ℕ → Node V) (since : List (Move V)) (list : List (Change V)) (m j : ℕ) → j < n → Shows n nodes w → AreShown same n w nodes since list → WasUpTo nodes since m j →
      HeldOnce same w list (λ (stored : DurableState V). IsUpTo stored m) j
  was_held w nodes since list m j less shows shown was =
      let parts : Parts same n w nodes was.earlier was.later list = split_at same n w nodes was.earlier was.later since list was.moment shown in
      let now : Shows n (nodes_after nodes was.earlier) (changes same w parts.first) = shows_end same n w nodes was.earlier parts.first shows parts.is_first in
      record {
        earlier = parts.first;
        later = parts.second;
        moment = parts.whole;
        stored = (nodes_after nodes was.earlier j).stored;
        node = record { volatile = (nodes_after nodes was.earlier j).volatile; is_there = now.each j less };
        held = was.up_to;
      }

  is_guarded : (moves : List (Move V)) (list : List (Change V)) (i : ℕ) (stored : DurableState V) → AreShown same n (start n) new_nodes moves list → MayReplace n moves i stored →
      IsGuarded same n list i stored
  unfolding after_changes
  is_guarded moves list i stored shown may =
      let parts : Parts same n (start n) new_nodes may.before may.since list = split_at same n (start n) new_nodes may.before may.since moves list may.parts shown in
      let then_shows : Shows n (nodes_after new_nodes may.before) (changes same (start n) parts.first) = shows_after may.before parts.first parts.is_first in
      let by_then : Parts same n (start n) new_nodes may.known may.rest list = split_at same n (start n) new_nodes may.known may.rest moves list may.by_then shown in
      record {
        before = parts.first;
        since = parts.second;
        parts = parts.whole;
        m = may.m;
        guard = record {
          silent = elsewhere same n (changes same (start n) parts.first) (nodes_after new_nodes may.before) i may.since parts.second may.silent parts.is_second;
          asked = may.asked;
          half = may.half;
          each = λ j less is_asked.
              was_held (changes same (start n) parts.first) (nodes_after new_nodes may.before) may.since parts.second may.m j less then_shows parts.is_second (may.each j less is_asked);
        };
        copy = may.copy;
        known = by_then.first;
        rest = by_then.second;
        by_then = by_then.whole;
        source = may.source;
        copied = subst (IsBeginning stored.history)
            (sym (history_after may.source (nodes_after new_nodes may.known) (changes same (start n) by_then.first) may.is_member (shows_after may.known by_then.first by_then.is_first))) may.copied;
        far = may.far;
      }

  -- ---- along the moves

  guarded_events : (events : List (Event V)) (list more : List (Change V)) → AreGuarded same n (list ++ without_loss events) more → AreGuarded same n list (without_loss events ++ more)
  unfolding without_loss
  guarded_events [] list more guarded = subst (λ (x : List (Change V)). AreGuarded same n x more) (append-nil list) guarded
  guarded_events (event ∷ events) list more guarded = (
    tt,
    guarded_events events (list ++ Occurs event ∷ []) more
        (subst (λ (x : List (Change V)). AreGuarded same n x more) (sym (append_assoc list (Occurs event ∷ []) (without_loss events))) guarded),
  )

  guarded_chunk : (moves : List (Move V)) (move : Move V) (list chunk more : List (Change V)) → AreShown same n (start n) new_nodes moves list → IsAllowed n moves move → IsChunk move chunk →
      AreGuarded same n (list ++ chunk) more → AreGuarded same n list (chunk ++ more)
  guarded_chunk moves (Entered entry node) list chunk more shown allowed is guarded =
      subst (λ (x : List (Change V)). AreGuarded same n list (x ++ more)) (sym is.alone)
      (guarded_events is.events list more (subst (λ (x : List (Change V)). AreGuarded same n (list ++ x) more) is.alone guarded))
  guarded_chunk moves (Renewed i stored) list chunk more shown allowed is guarded =
      subst (λ (x : List (Change V)). AreGuarded same n list (x ++ more)) (sym is)
      (is_guarded moves list i stored shown allowed, subst (λ (x : List (Change V)). AreGuarded same n (list ++ x) more) is guarded)

  one_shown : (w : World V) (nodes : ℕ → Node V) (move : Move V) (chunk : List (Change V)) → IsChunk move chunk → Shows n (nodes_with nodes move) (changes same w chunk) → AreShown same n w nodes (move ∷ []) chunk
  one_shown w nodes move chunk is shows = (chunk, [], append-nil chunk, is, shows, refl)

  after_one : (nodes : ℕ → Node V) (move : Move V) → nodes_after nodes (move ∷ []) ≡ nodes_with nodes move
  unfolding nodes_after
  after_one nodes move = refl

  guarded_on : (before moves : List (Move V)) (list more : List (Change V)) → AreShown same n (start n) new_nodes before list →
      AreShown same n (changes same (start n) list) (nodes_after new_nodes before) moves more → AreAllowed n before moves → AreGuarded same n list more
  guarded_on before [] list more shown later allowed = subst (AreGuarded same n list) (sym later) tt
  guarded_on before (move ∷ moves) list more shown (chunk, rest, whole, is, shows_next, later) allowed =
      let now : World V = changes same (start n) list in
      let joined : AreShown same n (start n) new_nodes (before ++ move ∷ []) (list ++ chunk) =
      join same n (start n) new_nodes before (move ∷ []) list chunk shown (one_shown now (nodes_after new_nodes before) move chunk is shows_next) in
      let nodes_then : nodes_with (nodes_after new_nodes before) move ≡ nodes_after new_nodes (before ++ move ∷ []) =
      sym (nodes_in_turn new_nodes before (move ∷ []) ∙ after_one (nodes_after new_nodes before) move) in
      subst (AreGuarded same n list) whole
      (guarded_chunk before move list chunk rest shown allowed.0 is
      (guarded_on (before ++ move ∷ []) moves (list ++ chunk) rest joined
      (subst (λ (x : World V). AreShown same n x (nodes_after new_nodes (before ++ move ∷ [])) moves rest) (sym (changes_in_turn same (start n) list chunk))
      (subst (λ (x : ℕ → Node V). AreShown same n (changes same (changes same (start n) list) chunk) x moves rest) nodes_then later)) allowed.1))

  pub course_guarded : (moves : List (Move V)) (list : List (Change V)) → AreShown same n (start n) new_nodes moves list → AreAllowed n [] moves → AreGuarded same n [] list
  unfolding nodes_after changes
  course_guarded moves list shown allowed = guarded_on [] moves [] list refl shown allowed

pub course_is_run : (V : Type 0) → CourseIsRun V
unfolding after_changes
course_is_run V = λ same n moves are.
    let shown : Shown same n [] (λ i. new_node) (start n) moves = show_course same n moves are in
    record { changes = shown.list; refines = shown.refines; guarded = course_guarded same n moves shown.list shown.are_shown }
