-- The entries of a farm as a list of nodes; and a farm over durable tapes whose nodes are led on is
-- reached still.
use Rattle.std.proofs.Common.{◌≡◌, ℕ, zero, suc, Bool, true, false, List, [], ◌∷◌, ◌++◌, map, length, slice_get, slice_set, Option, Some, None, refl, sym, ap, subst, ◌∙◌, arith, inl, inr, length-set}
use Rattle.wf_farm.proofs.Common.{both_ways, cases_eq, false≢true, append-nil, none-some, same_Some, Message, Definition, definition_eq, steps_in_turn, World, start, after, steps, AllStandFor, Node, NodeHost, Running, Stopped, AnyPart, StandAmong, StandFor, StandInTurn, MayLeaveOfEach, IsNodeBy, IsReachable, AreReachableFrom, AreReachable, Reach, AreChanged, Changed, KeepEntries, KeepHosts, KeepsEntry, KeepsHost, Unchanged, node_in, nodes_of, keep_set, keep_themselves, keep_twice, keeps_itself, length-nodes, nodes_back, nodes_get, get_set_same, get_set_other}
use Rattle.wf_codec.specs.Message as message
use Rattle.wf_model.specs.World as world
use Rattle.wf_delivery.specs.Delivery as delivering
use Rattle.wf_farm.specs.Hosts.{IsHostNode, AreNodes, IsMember, AreAtTheirIndex}
use Rattle.wf_farm.proofs.Entries.{all_nodes, as_many, node_at}
use Rattle.wf_delivery.proofs.Stored.{one_stand}
use Rattle.wf_tape.specs.declared.tape.Tape.{Ghosts as Tape}

-- ---- the members

module _ {T : Type 0} (durable : Type 0) (images : T → List ℕ → Type 0) (never_fails : T → Type 0) where
  turn_by : (n i : ℕ) (host : NodeHost T) → IsMember durable images never_fails n i host → ((node_in n i host).id ≡ i) × ((node_in n i host).n ≡ n)
  turn_by n i (Running node) is = (is.0, is.1)
  turn_by n i (Stopped tape) is = (refl, refl)

  -- members are in turn
  pub in_turn_of : (hosts : List (NodeHost T)) → AreAtTheirIndex durable images never_fails hosts → StandInTurn (nodes_of hosts)
  unfolding StandAmong AreAtTheirIndex
  in_turn_of hosts are = λ i node at.
      let back = nodes_back hosts i node at in
      let turn = turn_by (length hosts) i back.0 (are i back.0 back.1) in
      (sym (ap (λ (x : Node T). x.id) back.2) ∙ turn.0, sym (ap (λ (x : Node T). x.n) back.2) ∙ turn.1 ∙ sym (length-nodes hosts))

  outside_member : (durable → ⊥) → (n i : ℕ) (host : NodeHost T) → ((node_in n i host).id ≡ i) × ((node_in n i host).n ≡ n) → IsMember durable images never_fails n i host
  outside_member outside n i (Running node) turn = (turn.0, turn.1, λ h. absurd (outside h))
  outside_member outside n i (Stopped tape) turn = λ h. absurd (outside h)

  -- nodes in turn are members, where the tapes aren't known to be durable
  pub outside_members : (durable → ⊥) → (hosts : List (NodeHost T)) → StandInTurn (nodes_of hosts) → AreAtTheirIndex durable images never_fails hosts
  unfolding StandAmong AreAtTheirIndex
  outside_members outside hosts turns = λ i host at.
      let turn = turns i (node_in (length hosts) i host) (nodes_get hosts i host at) in
      outside_member outside (length hosts) i host (turn.0, turn.1 ∙ length-nodes hosts)

  -- A member that replaces one.
  pub set_members : (hosts : List (NodeHost T)) (i : ℕ) (host next : NodeHost T) → slice_get hosts i ≡ Some host → IsMember durable images never_fails (length hosts) i next →
      AreAtTheirIndex durable images never_fails hosts → AreAtTheirIndex durable images never_fails (slice_set hosts i next)
  unfolding AreAtTheirIndex
  set_members hosts i host next at is are = λ j p e. subst (λ n. IsMember durable images never_fails n j p) (sym (length-set hosts i next)) (elim (cases_eq j i) [
    | inl same ↦ subst (λ k. IsMember durable images never_fails (length hosts) k p) (sym same)
        (subst (λ q. IsMember durable images never_fails (length hosts) i q) (get_set_same hosts i next host p at (subst (λ k. slice_get (slice_set hosts i next) k ≡ Some p) same e)) is)
    | inr differs ↦ are j p (sym (get_set_other hosts i j next differs) ∙ e)
  ])

  -- The member at an index.
  pub member_of : (hosts : List (NodeHost T)) (i : ℕ) (host : NodeHost T) → slice_get hosts i ≡ Some host → AreAtTheirIndex durable images never_fails hosts → IsMember durable images never_fails (length hosts) i host
  unfolding AreAtTheirIndex
  member_of hosts i host at are = are i host at

-- ---- entries that may have changed

module _ {T : Type 0} (tapes : Tape T) where
  pub entry_itself : (host : NodeHost T) → KeepsEntry tapes host host
  entry_itself host = record { member = λ n i is. is; kept = keeps_itself host }

  pub entries_themselves : (hosts : List (NodeHost T)) → KeepEntries tapes hosts hosts
  entries_themselves hosts = record { as_many = refl; members = λ are. are; kept = keep_themselves hosts }

  pub entries_twice : (hosts middle after : List (NodeHost T)) → KeepEntries tapes hosts middle → KeepEntries tapes middle after → KeepEntries tapes hosts after
  entries_twice hosts middle after first second = record {
    as_many = second.as_many ∙ first.as_many;
    members = λ are. second.members (first.members are);
    kept = keep_twice hosts middle after first.kept second.kept;
  }

  pub entry_set : (hosts : List (NodeHost T)) (i : ℕ) (host next : NodeHost T) → slice_get hosts i ≡ Some host → KeepsEntry tapes host next → KeepEntries tapes hosts (slice_set hosts i next)
  entry_set hosts i host next at keeps = record {
    as_many = length-set hosts i next;
    members = λ are.
        set_members tapes.durable tapes.images tapes.never_fails hosts i host next at
        (keeps.member (length hosts) i (member_of tapes.durable tapes.images tapes.never_fails hosts i host at are)) are;
    kept = keep_set hosts i host next at keeps.kept;
  }

  -- entries that were changed one after the other
  pub changed_entries : (hosts after : List (NodeHost T)) → AreChanged (KeepsEntry tapes) hosts after → KeepEntries tapes hosts after
  changed_entries hosts after Unchanged = entries_themselves hosts
  changed_entries hosts after (Changed middle i host next changed at keeps) =
      entries_twice hosts middle (slice_set middle i next) (changed_entries hosts middle changed) (entry_set middle i host next at keeps)

-- ---- a stopped node's tape

abbrev Runs : {T : Type 0} → NodeHost T → Type 0
Runs (Running node) = Unit {0}
Runs (Stopped tape) = ⊥

abbrev tape_in : {T : Type 0} → NodeHost T → T
tape_in (Running node) = node.tape
tape_in (Stopped tape) = tape

pub running_stopped : {T : Type 0} (node : Node T) (tape : T) → Running node ≡ Stopped tape → ⊥
running_stopped {T} node tape same = subst (λ (p : NodeHost T). Runs p) same tt

same_tape : {T : Type 0} (other tape : T) → Stopped other ≡ Stopped tape → other ≡ tape
same_tape {T} other tape same = ap (λ (p : NodeHost T). tape_in p) same

-- what stays a stopped node was one
was_stopped : {T : Type 0} (host : NodeHost T) (tape : T) → KeepsHost host (Stopped tape) → host ≡ Stopped tape
was_stopped (Running node) tape keeps = absurd (running_stopped keeps.0 tape (sym keeps.1))
was_stopped (Stopped other) tape keeps = sym keeps

-- an entry of as many entries
entry_there : {A B : Type 0} (xs : List A) (ys : List B) (i : ℕ) (y : B) → length ys ≡ length xs → slice_get ys i ≡ Some y → (x : A) × (slice_get xs i ≡ Some x)
entry_there xs [] i y long e = absurd (none-some y e)
entry_there [] (z ∷ ys) i y long e = absurd (omega (arith, long))
entry_there (x ∷ xs) (z ∷ ys) zero y long e = (x, refl)
entry_there (x ∷ xs) (z ∷ ys) (suc i) y long e = entry_there xs ys i y (omega (arith, long)) e

-- ---- a farm over durable tapes is reached

module _ {T : Type 0} (durable : Type 0) (images : T → List ℕ → Type 0) (never_fails : T → Type 0) where
  any_node : (n i : ℕ) (host : NodeHost T) (shown : world.Node Definition) → IsMember durable images never_fails n i host → durable → IsHostNode images host shown → delivering.ShowsNode (AnyPart i) (node_in n i host) shown
  any_node n i (Running node) shown member h is = subst (λ b. IsNodeBy b (AnyPart i) node shown) (sym (member.2 h).0) is
  any_node n i (Stopped tape) shown member h is = (is.0, (shown.stored.history, refl), tt)

  -- Its nodes are reached.
  pub reached_any : (hosts : List (NodeHost T)) (sent : List Message) (complete : Bool) → AreAtTheirIndex durable images never_fails hosts → durable → IsReachable images complete hosts sent → AreReachable AnyPart (nodes_of hosts)
  reached_any hosts sent complete members h reached =
      let w = after definition_eq (length hosts) reached.events in
      record {
        sent = reached.earlier ++ sent;
        events = reached.events;
        refines = subst (λ k. delivering.Refines AnyPart (nodes_of hosts) (reached.earlier ++ sent) (after definition_eq k reached.events)) (sym (length-nodes hosts)) (record {
          nodes_are = record {
            as_many = as_many images hosts w.nodes reached.nodes ∙ sym (length-nodes hosts);
            node_is = λ i node at.
                let back = nodes_back hosts i node at in
                let here = node_at images hosts w.nodes i back.0 reached.nodes back.1 in
                (here.0, here.1, subst (λ (x : Node T). delivering.ShowsNode (AnyPart i) x here.0) back.2 (any_node (length hosts) i back.0 here.0 (member_of durable images never_fails hosts i back.0 back.1 members) h here.2));
          };
          messages = reached.messages;
        });
      }

-- ---- a farm over durable tapes is led on from where it was reached

module _ {T : Type 0} (tapes : Tape T) (durable : tapes.durable) (hosts next : List (NodeHost T)) (keep : KeepHosts hosts next) (long : length next ≡ length hosts)
    (members : AreAtTheirIndex tapes.durable tapes.images tapes.never_fails hosts) (next_members : AreAtTheirIndex tapes.durable tapes.images tapes.never_fails next) where
  -- what a crash may leave of each stopped node's tape
  left_by : (i : ℕ) (there : Option (NodeHost T)) → slice_get next i ≡ there → List ℕ
  left_by i None e = []
  left_by i (Some (Running node)) e = []
  left_by i (Some (Stopped tape)) e = (member_of tapes.durable tapes.images tapes.never_fails next i (Stopped tape) e next_members durable).1.0

  left : ℕ → List ℕ
  left i = left_by i (slice_get next i) refl

  is_left_by : (i : ℕ) (there : Option (NodeHost T)) (e : slice_get next i ≡ there) (tape : T) → there ≡ Some (Stopped tape) → tapes.images tape (left_by i there e)
  unfolding left_by
  is_left_by i None e tape is = absurd (none-some (Stopped tape) is)
  is_left_by i (Some (Running node)) e tape is = absurd (running_stopped node tape (same_Some (Running node) (Stopped tape) is))
  is_left_by i (Some (Stopped other)) e tape is =
      subst (λ (t : T). tapes.images t (left_by i (Some (Stopped other)) e)) (same_tape other tape (same_Some (Stopped other) (Stopped tape) is))
      (member_of tapes.durable tapes.images tapes.never_fails next i (Stopped other) e next_members durable).1.1

  is_left : (i : ℕ) (tape : T) → slice_get next i ≡ Some (Stopped tape) → tapes.images tape (left i)
  unfolding left
  is_left i tape at = is_left_by i (slice_get next i) refl tape at

  left_of : (i : ℕ) (host : NodeHost T) (node : Node T) → slice_get next i ≡ Some host → node_in (length next) i host ≡ node → node.halted ≡ true → tapes.images node.tape (left i)
  left_of i (Running held) node at same halted =
      absurd (both_ways held.halted ((member_of tapes.durable tapes.images tapes.never_fails next i (Running held) at next_members).2 durable).0 (subst (λ (x : Node T). x.halted ≡ true) (sym same) halted))
  left_of i (Stopped tape) node at same halted = subst (λ (x : Node T). tapes.images x.tape (left i)) same (is_left i tape at)

  may : MayLeaveOfEach tapes (nodes_of next) left
  unfolding MayLeaveOfEach
  may = λ i node at halted. let back = nodes_back next i node at in left_of i back.0 node back.1 back.2 halted

  -- a stopped node was stopped before, with the same tape
  stopped_before : (i : ℕ) (tape : T) → slice_get next i ≡ Some (Stopped tape) → slice_get hosts i ≡ Some (Stopped tape)
  unfolding KeepHosts
  stopped_before i tape at =
      let before = entry_there hosts next i (Stopped tape) long at in
      let kept = keep i before.0 before.1 in
      let same : kept.0 ≡ Stopped tape = same_Some kept.0 (Stopped tape) (sym kept.1 ∙ at) in
      before.1 ∙ ap Some (was_stopped before.0 tape (subst (λ (p : NodeHost T). KeepsHost before.0 p) same kept.2))

  stopped_after : (i : ℕ) (tape : T) → slice_get hosts i ≡ Some (Stopped tape) → slice_get next i ≡ Some (Stopped tape)
  unfolding KeepHosts
  stopped_after i tape at = let kept = keep i (Stopped tape) at in kept.1 ∙ ap Some kept.2

  module _ (w : World Definition) (are : AreNodes tapes.images hosts w.nodes) where
    is_by : (i : ℕ) (host : NodeHost T) (shown : world.Node Definition) → slice_get hosts i ≡ Some host → IsHostNode tapes.images host shown →
        delivering.ShowsNode (StandFor left i) (node_in (length hosts) i host) shown
    is_by i (Running node) shown at is =
        subst (λ b. IsNodeBy b (StandFor left i) node shown) (sym ((member_of tapes.durable tapes.images tapes.never_fails hosts i (Running node) at members).2 durable).0) is
    is_by i (Stopped tape) shown at is = (is.0, (shown.stored.history, refl), is.1 (left i) (is_left i tape (stopped_after i tape at)))

    -- the nodes that the entries are, for these bytes
    shown_before : delivering.AreNodes (StandFor left) (nodes_of hosts) w.nodes
    shown_before = record {
      as_many = as_many tapes.images hosts w.nodes are ∙ sym (length-nodes hosts);
      node_is = λ i node at.
          let back = nodes_back hosts i node at in
          let here = node_at tapes.images hosts w.nodes i back.0 are back.1 in
          (here.0, here.1, subst (λ (x : Node T). delivering.ShowsNode (StandFor left i) x here.0) back.2 (is_by i back.0 here.0 back.1 here.2));
    }

    module _ (v : World Definition) (refines : delivering.AreNodes (StandFor left) (nodes_of next) v.nodes) where
      is_now : (i : ℕ) (host : NodeHost T) → slice_get next i ≡ Some host → (node : world.Node Definition) × (slice_get v.nodes i ≡ Some node) × IsHostNode tapes.images host node
      is_now i (Running node) at =
          let here = refines.node_is i node (nodes_get next i (Running node) at) in
          (here.0, here.1, subst (λ b. IsNodeBy b (StandFor left i) node here.0) ((member_of tapes.durable tapes.images tapes.never_fails next i (Running node) at next_members).2 durable).0 here.2)
      is_now i (Stopped tape) at =
          let here = refines.node_is i (node_in (length next) i (Stopped tape)) (nodes_get next i (Stopped tape) at) in
          let was = node_at tapes.images hosts w.nodes i (Stopped tape) are (stopped_before i tape at) in
          let same : was.0.stored ≡ here.0.stored = one_stand (left i) was.0.stored here.0.stored (was.2.1 (left i) (is_left i tape at)) here.2.2 in
          (here.0, here.1, (here.2.0, subst (λ stored. AllStandFor stored (tapes.images tape)) same was.2.1))

      shown_now : AreNodes tapes.images next v.nodes
      shown_now = all_nodes tapes.images next v.nodes (refines.as_many ∙ length-nodes next) is_now

  -- What was reached and led on is reached; its messages may be forgotten.
  pub reached_reachable : (sent : List Message) (complete : Bool) → AreReachableFrom tapes (nodes_of hosts) (nodes_of next) → IsReachable tapes.images complete hosts sent → IsReachable tapes.images false next []
  unfolding Reach after
  reached_reachable sent complete reachable reached =
      let w = steps definition_eq (start (length hosts)) reached.events in
      let on = reachable.on_tape durable left may w (reached.earlier ++ sent) (record { nodes_are = shown_before w reached.nodes; messages = reached.messages }) in
      let v = steps definition_eq w on.events in
      let goes : steps definition_eq (start (length next)) (reached.events ++ on.events) ≡ v =
      steps_in_turn Definition definition_eq (start (length next)) reached.events on.events ∙ ap (λ k. steps definition_eq (steps definition_eq (start k) reached.events) on.events) long in
      record {
        events = reached.events ++ on.events;
        earlier = on.sent;
        nodes = subst (λ x. AreNodes tapes.images next x.nodes) (sym goes) (shown_now w reached.nodes v on.refines.nodes_are);
        messages = ap (λ x. x.sent) goes ∙ on.refines.messages ∙ ap (λ ms. map message.view ms) (sym (append-nil on.sent));
        all = λ is. absurd (false≢true is);
      }
