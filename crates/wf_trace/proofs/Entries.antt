-- The entries of processes are events of the model.
use Rattle.std.proofs.Common.{◌≡◌, ◌≢◌, ℕ, ◌<◌, ◌==◌, Bool, List, [], ◌∷◌, ◌++◌, slice_get, slice_set, length-set, Some, refl, sym, ap, subst, ◌∙◌, inl, inr, append-nil, append_assoc, eq-eqb, ne_eqb, if◌then◌else◌}
use Rattle.std.proofs.lemmas.Bool.{cases_eq}
use Rattle.std.proofs.lemmas.List.{length-replicate}
use Rattle.wf_model.specs.Message.{Message}
use Rattle.wf_model.specs.StepsTheorems.{steps_in_turn}
use Rattle.wf_model.specs.World.{Node, World, steps, start, after}
use Rattle.wf_trace.specs.Deed.{IsDone, new_node}
use Rattle.wf_trace.specs.Trace.{Entry, of_process, outputs_by, IsLifeByEntries, DeliversOneOf, AreReceived, AreMembers, GoOn, Refines}
use Rattle.wf_trace.specs.Theorems.{EntriesAreEvents, AreNodesReachableFrom, TraceIsRun, PartsAreOne}
use Rattle.wf_trace.proofs.Nodes.{set_there, set_elsewhere, all_alike}
use Rattle.wf_trace.proofs.Deeds.{Becomes, deed_is_events}

-- ---- the entries of one process

-- the first entry is of its process
pub own_first : {V : Type 0} (i : ℕ) (entry : Entry V) (entries : List (Entry V)) → entry.process ≡ i → of_process i (entry ∷ entries) ≡ entry ∷ of_process i entries
unfolding of_process
own_first i entry entries same = rw (eq-eqb entry.process i same) refl

-- and of no other one
pub other_first : {V : Type 0} (i : ℕ) (entry : Entry V) (entries : List (Entry V)) → entry.process ≢ i → of_process i (entry ∷ entries) ≡ of_process i entries
unfolding of_process
other_first i entry entries differs = rw (ne_eqb entry.process i differs) refl

-- ---- the nodes, one of them changed

unfoldable pub put_node : {V : Type 0} → (ℕ → Node V) → ℕ → Node V → ℕ → Node V
put_node nodes i node j = if j == i then node else nodes j

put_own : {V : Type 0} (nodes : ℕ → Node V) (i j : ℕ) (node : Node V) → j ≡ i → put_node nodes i node j ≡ node
unfolding put_node
put_own nodes i j node same = rw (eq-eqb j i same) refl

put_other : {V : Type 0} (nodes : ℕ → Node V) (i j : ℕ) (node : Node V) → j ≢ i → put_node nodes i node j ≡ nodes j
unfolding put_node
put_other nodes i j node differs = rw (ne_eqb j i differs) refl

-- ---- one entry

module _ {V : Type 0} (same : V → V → Bool) (n : ℕ) (sent : List (Message V)) (nodes nodes_after : ℕ → Node V) (entry : Entry V) (entries : List (Entry V)) (go : GoOn same n sent nodes (entry ∷ entries) nodes_after) where
  -- the life of the process that it is of
  pub own_life : IsLifeByEntries same n entry.process (nodes entry.process) (entry ∷ of_process entry.process entries) (nodes_after entry.process)
  own_life = subst (λ (es : List (Entry V)). IsLifeByEntries same n entry.process (nodes entry.process) es (nodes_after entry.process)) (own_first entry.process entry entries refl) (go.lives entry.process go.members.0)

  abbrev pub middle : Node V
  middle = own_life.0

  -- the lives from then on
  later_life : (j : ℕ) → j < n → IsLifeByEntries same n j (put_node nodes entry.process middle j) (of_process j entries) (nodes_after j)
  later_life j less = elim (cases_eq j entry.process) [
    | inl own ↦ subst (λ k. IsLifeByEntries same n k (put_node nodes entry.process middle k) (of_process k entries) (nodes_after k)) (sym own)
        (subst (λ (x : Node V). IsLifeByEntries same n entry.process x (of_process entry.process entries) (nodes_after entry.process)) (sym (put_own nodes entry.process entry.process middle refl)) own_life.2)
    | inr other ↦ subst (λ (x : Node V). IsLifeByEntries same n j x (of_process j entries) (nodes_after j)) (sym (put_other nodes entry.process j middle other))
        (subst (λ (es : List (Entry V)). IsLifeByEntries same n j (nodes j) es (nodes_after j)) (other_first j entry entries (λ e. other (sym e))) (go.lives j less))
  ]

  pub rest_goes_on : GoOn same n (sent ++ entry.outputs) (put_node nodes entry.process middle) entries nodes_after
  rest_goes_on = record { members = go.members.1; lives = later_life; received = go.received.1 }

  module _ (w : World V) (refines : Refines n nodes sent w) where
    becomes : Becomes same w entry.process middle entry.outputs
    becomes = deed_is_events same w entry.process (nodes entry.process) (refines.each entry.process go.members.0) entry.deed entry.outputs middle
        (subst (λ (ms : List (Message V)). DeliversOneOf ms entry.deed) (sym refines.messages) go.received.0)
        (subst (λ k. IsDone same k entry.process (nodes entry.process) entry.deed entry.outputs middle) (sym refines.as_many) own_life.1)

    there : (j : ℕ) → j < n → slice_get (slice_set w.nodes entry.process middle) j ≡ Some (put_node nodes entry.process middle j)
    there j less = elim (cases_eq j entry.process) [
      | inl own ↦ subst (λ k. slice_get (slice_set w.nodes entry.process middle) k ≡ Some (put_node nodes entry.process middle k)) (sym own)
          (set_there w.nodes entry.process middle (nodes entry.process) (refines.each entry.process go.members.0) ∙ ap Some (sym (put_own nodes entry.process entry.process middle refl)))
      | inr other ↦ set_elsewhere w.nodes entry.process j middle other ∙ refines.each j less ∙ ap Some (sym (put_other nodes entry.process j middle other))
    ]

    shown : Refines n (put_node nodes entry.process middle) (sent ++ entry.outputs) (steps same w becomes.events)
    shown = subst (Refines n (put_node nodes entry.process middle) (sent ++ entry.outputs)) (sym becomes.world) (record {
      as_many = length-set w.nodes entry.process middle ∙ refines.as_many;
      each = there;
      messages = ap (λ (ms : List (Message V)). ms ++ entry.outputs) refines.messages;
    })

    reachable_on : AreNodesReachableFrom same n (steps same w becomes.events) nodes_after ((sent ++ entry.outputs) ++ outputs_by entries) → AreNodesReachableFrom same n w nodes_after (sent ++ outputs_by (entry ∷ entries))
    unfolding outputs_by
    reachable_on reachable = record {
      events = becomes.events ++ reachable.events;
      refines = subst (Refines n nodes_after (sent ++ (entry.outputs ++ outputs_by entries))) (sym (steps_in_turn V same w becomes.events reachable.events))
          (subst (λ (ms : List (Message V)). Refines n nodes_after ms (steps same (steps same w becomes.events) reachable.events)) (append_assoc sent entry.outputs (outputs_by entries)) reachable.refines);
    }

-- ---- all of them

module _ {V : Type 0} (same : V → V → Bool) (n : ℕ) where
  none_left : (sent : List (Message V)) (nodes nodes_after : ℕ → Node V) (w : World V) → GoOn same n sent nodes [] nodes_after → Refines n nodes sent w → AreNodesReachableFrom same n w nodes_after (sent ++ outputs_by [])
  unfolding steps of_process outputs_by
  none_left sent nodes nodes_after w go refines = record {
    events = [];
    refines = record {
      as_many = refines.as_many;
      each = λ i less. refines.each i less ∙ ap Some (sym (go.lives i less));
      messages = refines.messages ∙ sym (append-nil sent);
    };
  }

  reach_on : (entries : List (Entry V)) (sent : List (Message V)) (nodes nodes_after : ℕ → Node V) (w : World V) → GoOn same n sent nodes entries nodes_after → Refines n nodes sent w →
      AreNodesReachableFrom same n w nodes_after (sent ++ outputs_by entries)
  reach_on [] sent nodes nodes_after w go refines = none_left sent nodes nodes_after w go refines
  reach_on (entry ∷ entries) sent nodes nodes_after w go refines =
      reachable_on same n sent nodes nodes_after entry entries go w refines
      (reach_on entries (sent ++ entry.outputs) (put_node nodes entry.process (middle same n sent nodes nodes_after entry entries go)) nodes_after
      (steps same w (becomes same n sent nodes nodes_after entry entries go w refines).events)
      (rest_goes_on same n sent nodes nodes_after entry entries go) (shown same n sent nodes nodes_after entry entries go w refines))

pub entries_are_events : (V : Type 0) → EntriesAreEvents V
entries_are_events V = λ same n sent nodes nodes_after entries w go refines. reach_on same n entries sent nodes nodes_after w go refines

-- ---- from the start on

starts : {V : Type 0} (n : ℕ) → Refines {V = V} n (λ i. new_node) [] (start n)
unfolding start
starts n = record { as_many = length-replicate n _; each = λ i less. all_alike n i _ less; messages = refl }

pub trace_is_run : (V : Type 0) → TraceIsRun V
unfolding after
trace_is_run V = λ same n entries nodes trace.
    let reachable = reach_on same n entries [] (λ i. new_node) nodes (start n) trace (starts n) in
    record { events = reachable.events; refines = reachable.refines }

-- ---- two parts, one after the other

module _ {V : Type 0} where
  outputs_in_turn : (entries later : List (Entry V)) → outputs_by (entries ++ later) ≡ outputs_by entries ++ outputs_by later
  unfolding outputs_by
  outputs_in_turn [] later = refl
  outputs_in_turn (entry ∷ entries) later = ap (λ ms. entry.outputs ++ ms) (outputs_in_turn entries later) ∙ sym (append_assoc entry.outputs (outputs_by entries) (outputs_by later))

  of_none : (i : ℕ) (later : List (Entry V)) → of_process i later ≡ of_process i [] ++ of_process i later
  unfolding of_process
  of_none i later = refl

  of_both : (i : ℕ) (entries later : List (Entry V)) → of_process i (entries ++ later) ≡ of_process i entries ++ of_process i later
  of_both i [] later = of_none i later
  of_both i (entry ∷ entries) later = elim (cases_eq entry.process i) [
    | inl own ↦ own_first i entry (entries ++ later) own ∙ ap (λ es. entry ∷ es) (of_both i entries later) ∙ ap (λ es. es ++ of_process i later) (sym (own_first i entry entries own))
    | inr other ↦ other_first i entry (entries ++ later) other ∙ of_both i entries later ∙ ap (λ es. es ++ of_process i later) (sym (other_first i entry entries other))
  ]

  life_in_turn : (same : V → V → Bool) (n i : ℕ) (node now node_after : Node V) (entries later : List (Entry V)) → IsLifeByEntries same n i node entries now → IsLifeByEntries same n i now later node_after → IsLifeByEntries same n i node (entries ++ later) node_after
  life_in_turn same n i node now node_after [] later life more = subst (λ (x : Node V). IsLifeByEntries same n i x later node_after) life more
  life_in_turn same n i node now node_after (entry ∷ entries) later life more = (life.0, life.1, life_in_turn same n i life.0 now node_after entries later life.2 more)

  members_in_turn : (n : ℕ) (entries later : List (Entry V)) → AreMembers n entries → AreMembers n later → AreMembers n (entries ++ later)
  members_in_turn n [] later are more = more
  members_in_turn n (entry ∷ entries) later are more = (are.0, members_in_turn n entries later are.1 more)

  received_in_turn : (sent : List (Message V)) (entries later : List (Entry V)) → AreReceived sent entries → AreReceived (sent ++ outputs_by entries) later → AreReceived sent (entries ++ later)
  unfolding outputs_by
  received_in_turn sent [] later received more = subst (λ (ms : List (Message V)). AreReceived ms later) (append-nil sent) more
  received_in_turn sent (entry ∷ entries) later received more =
      (received.0, received_in_turn (sent ++ entry.outputs) entries later received.1 (subst (λ (ms : List (Message V)). AreReceived ms later) (sym (append_assoc sent entry.outputs (outputs_by entries))) more))

pub parts_are_one : (V : Type 0) → PartsAreOne V
parts_are_one V = λ same n sent nodes now nodes_after entries later go more. record {
  members = members_in_turn n entries later go.members more.members;
  lives = λ i less. subst (λ (es : List (Entry V)). IsLifeByEntries same n i (nodes i) es (nodes_after i)) (sym (of_both i entries later))
      (life_in_turn same n i (nodes i) (now i) (nodes_after i) (of_process i entries) (of_process i later) (go.lives i less) (more.lives i less));
  received = received_in_turn sent entries later go.received more.received;
}
