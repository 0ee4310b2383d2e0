-- Where each process that is replaced may be, the moves of the timeline are allowed.
use Rattle.std.proofs.Common.{◌≡◌, ℕ, zero, suc, ◌+◌, ◌<◌, ◌≤◌, Bool, true, false, List, [], ◌∷◌, ◌++◌, take, drop, slice_get, Some, refl, sym, ap, subst, ◌∙◌, arith}
use Rattle.std.proofs.lemmas.Bool.{both_ways}
use Rattle.std.proofs.lemmas.Option.{none-some}
use Rattle.wf_def.specs.Definition.{Definition}
use Rattle.wf_delivery.specs.Delivery.{AnyPart, ShowsNode, IsNodeBy}
use Rattle.wf_model.specs.DurableState.{DurableState}
use Rattle.wf_model.specs.World as world
use Rattle.wf_node.specs.Node.{Node, stored_of}
use Rattle.wf_safety.specs.Replacement.{IsCopy, IsUpTo, HasWindowAfter}
use Rattle.wf_safety.specs.Theorems.{IsBeginning}
use Rattle.wf_trace.specs.Course.{Move, Entered, Renewed, process_moved, nodes_after, course_nodes, AreOfOthers, WasUpTo, MayReplace, IsAllowed, AreAllowed}
use Rattle.wf_trace.specs.Deed.{new_node}
use Rattle.wf_replacement.specs.Timeline.{ProcessEvent, Opens, Acts, Ends, Loses, Rejoins, process_of, node_at}
use Rattle.wf_replacement.specs.Rejoining.{WasAsked, MayRejoin, EachMayRejoin}
use Rattle.wf_replacement.proofs.Courses.{AreMovesOf, event_at}
use Rattle.wf_replacement.proofs.Moves.{StandOnlyFor, IsMoveOf}
use Rattle.wf_replacement.proofs.Prefixes.{begins_through, begins_itself, up_to_behind, between, nodes_in_turn, others_each, allowed_each}

-- ---- a node and what it is in the model

module _ {T : Type 0} (i : ℕ) (node : Node T) (x : world.Node Definition) where
  running_by : (halted : Bool) → halted ≡ false → IsNodeBy halted (AnyPart i) node x → x.stored ≡ stored_of node
  running_by false runs is = ap (λ (y : world.Node Definition). y.stored) is
  running_by true runs is = absurd (both_ways true runs refl)

  pub running_stored : node.halted ≡ false → ShowsNode (AnyPart i) node x → x.stored ≡ stored_of node
  running_stored runs is = running_by node.halted runs is

  published_by : (halted : Bool) → IsNodeBy halted (AnyPart i) node x → IsBeginning node.parts.history x.stored.history
  published_by false is = subst (λ (y : world.Node Definition). IsBeginning node.parts.history y.stored.history) (sym is) (begins_itself node.parts.history)
  published_by true is = is.1

  pub node_begins : ShowsNode (AnyPart i) node x → IsBeginning node.parts.history x.stored.history
  node_begins is = published_by node.halted is

-- ---- moves between two moments

-- an element of a list between two numbers
record IsBetween {A : Type 0} (j k : ℕ) (xs : List A) (x : A) : Type 0 where
  at : ℕ
  from : j ≤ at
  to : at < k
  is : slice_get xs at ≡ Some x

found : {A : Type 0} (j k q : ℕ) (xs : List A) (x : A) → slice_get (drop j (take k xs)) q ≡ Some x → IsBetween j k xs x
found zero zero q xs x is = absurd (none-some x is)
found zero (suc k) q [] x is = absurd (none-some x is)
found zero (suc k) zero (y ∷ xs) x is = record { at = 0; from = omega arith; to = omega arith; is = is }
found zero (suc k) (suc q) (y ∷ xs) x is = let later = found zero k q xs x is in record { at = suc later.at; from = omega arith; to = let less = later.to in omega (arith, less); is = later.is }
found (suc j) zero q xs x is = absurd (none-some x is)
found (suc j) (suc k) q [] x is = absurd (none-some x is)
found (suc j) (suc k) q (y ∷ xs) x is =
    let later = found j k q xs x is in
    let from : j ≤ later.at = later.from in
    let to : later.at < k = later.to in
    record { at = suc later.at; from = omega (arith, from); to = omega (arith, to); is = later.is }

-- ---- one replacement

module _ {T : Type 0} (n : ℕ) (events : List (ProcessEvent T)) (first moves : List (Move Definition)) (are : AreMovesOf events moves)
    (seen : (k i : ℕ) (node : Node T) → i < n → node_at events k i ≡ Some node → ShowsNode (AnyPart i) node (course_nodes (first ++ take k moves) i)) where
  module _ (k i j : ℕ) (bytes : List ℕ) (stored : DurableState Definition) (own : j ≡ i) (only : StandOnlyFor stored bytes) (may : MayRejoin n events k i bytes) where
    abbrev front : List (Move Definition)
    front = first ++ take may.since moves

    abbrev since : List (Move Definition)
    since = drop may.since (take k moves)

    same : may.holds.stored ≡ stored
    same = only may.holds.stored may.holds.stands

    silent : AreOfOthers j since
    silent = others_each j since (λ q move at.
        let found_at = found may.since k q moves move at in
        let its = event_at events moves found_at.at move are found_at.is in
        λ e. may.silent found_at.at its.event found_at.from found_at.to its.at (sym its.own ∙ e ∙ own))

    -- the nodes when a process was asked
    asked_nodes : (moment : ℕ) → may.since ≤ moment → nodes_after (course_nodes front) (drop may.since (take moment moves)) ≡ course_nodes (first ++ take moment moves)
    asked_nodes moment after =
        sym (nodes_in_turn (λ a. new_node) front (drop may.since (take moment moves))) ∙ ap (λ (ms : List (Move Definition)). course_nodes ms) (up_to_behind first may.since moment moves after)

    asked : (a : ℕ) → a < n → may.asked a ≡ true → WasUpTo (course_nodes front) since may.m a
    asked a is_member is_asked =
        let was : WasAsked events may.since k may.m a = may.each a is_member is_asked in
        record {
          earlier = drop may.since (take was.moment moves);
          later = drop was.moment (take k moves);
          moment = between may.since was.moment k moves was.after was.before;
          up_to = subst (λ (nodes : ℕ → world.Node Definition). IsUpTo (nodes a).stored may.m) (sym (asked_nodes was.moment was.after))
              (subst (λ (s : DurableState Definition). IsUpTo s may.m) (sym (running_stored a was.node (course_nodes (first ++ take was.moment moves) a) was.runs (seen was.moment a was.node is_member was.at))) was.up_to);
        }

    replaced : MayReplace n (first ++ take k moves) j stored
    replaced = record {
      before = front;
      since = since;
      parts = up_to_behind first may.since k moves may.earlier;
      silent = silent;
      m = may.m;
      asked = may.asked;
      half = may.half;
      each = asked;
      copy = subst (λ (s : DurableState Definition). IsCopy s) same may.holds.copy;
      known = first ++ take may.known moves;
      rest = drop may.known (take k moves);
      by_then = up_to_behind first may.known k moves may.by_then;
      source = may.source;
      is_member = may.is_member;
      copied = subst (λ (s : DurableState Definition). IsBeginning s.history (course_nodes (first ++ take may.known moves) may.source).stored.history) same
          (begins_through may.holds.stored.history may.node.parts.history (course_nodes (first ++ take may.known moves) may.source).stored.history may.copied
          (node_begins may.source may.node (course_nodes (first ++ take may.known moves) may.source) (seen may.known may.source may.node may.is_member may.at)));
      far = subst (λ (s : DurableState Definition). HasWindowAfter may.m s) same may.far;
    }

  -- ---- each move

  module _ (each : EachMayRejoin n events) where
    allowed_by : (k : ℕ) (event : ProcessEvent T) (move : Move Definition) → slice_get events k ≡ Some event → process_moved move ≡ process_of event → IsMoveOf event move → IsAllowed n (first ++ take k moves) move
    allowed_by k event (Entered entry node) at own of = tt
    allowed_by k (Opens i node) (Renewed j stored) at own of = absurd of
    allowed_by k (Acts i act) (Renewed j stored) at own of = absurd of
    allowed_by k (Ends i end left) (Renewed j stored) at own of = absurd of
    allowed_by k (Loses i) (Renewed j stored) at own of = absurd of
    allowed_by k (Rejoins i bytes) (Renewed j stored) at own of = replaced k i j bytes stored own of (each k i bytes at)

    pub moves_allowed : AreAllowed n first moves
    moves_allowed = allowed_each n first moves (λ k move at. let its = event_at events moves k move are at in allowed_by k its.event move its.at its.own its.of)
