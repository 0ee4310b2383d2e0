-- A farm's entry whose node takes an input; and what a client does to a farm's node is done to the
-- nodes.
use Rattle.std.proofs.Common.{◌≡◌, ℕ, zero, suc, ◌∷◌, slice_index_or, ◌≤◌, Bool, false, List, [], length-set, slice_get, slice_set, Some, refl, sym, ap, subst, ◌∙◌, arith, Vec}
use Rattle.wf_farm.proofs.Common.{Global, none-some, same_Some, Message, Definition, Input, Node, NodeHost, Running, Stopped, StandAmong, IsAskedByClient, IsReadyFor, IsSturdy, ReachabilityGoesOn, IsSoundFarm, Takes, AreReachableFrom, AreReachableSending, KeepEntries, KeepsEntry, nodes_of, set_there, keep_set, length-nodes, nodes_get, nodes_set}
use Rattle.wf_farm.specs.Hosts.{AreAtTheirIndex}
use Rattle.wf_delivery.proofs.Deliveries.{stays_itself}
use Rattle.wf_farm.proofs.Nodes.{in_turn_of, member_of, reached_reachable, running_stopped, set_members}
use Rattle.wf_tape.specs.declared.tape.Tape.{Ghosts as Tape}

-- ---- one delivery

module _ {T : Type 0} (tapes : Tape T) where
  -- The entry of a node that takes an input.
  pub entry_taken : (node after : Node T) (input : Input Definition) (outputs : List Message) (lost : Bool) → Takes tapes lost input node after outputs → IsSturdy tapes node after → KeepsEntry tapes (Running node) (Running after)
  entry_taken node after input outputs lost takes sturdy =
      let stays = stays_itself tapes node after input outputs lost takes in
      record { member = λ n i is. (stays.0 ∙ is.0, stays.1 ∙ is.1, λ h. sturdy (is.2 h).1 (is.2 h).0); kept = (after, refl) }

-- ---- a node that is asked

-- the entry that was read at the index
index_running_there : {T : Type 0} (hosts : List (NodeHost T)) (i : ℕ) (default : NodeHost T) (node : Node T) → slice_get hosts i ≡ Some (Running node) → slice_index_or hosts i default ≡ Running node
index_running_there [] i default node at = absurd (none-some (Running node) at)
index_running_there (p ∷ hosts) zero default node at = same_Some p (Running node) at
index_running_there (p ∷ hosts) (suc i) default node at = index_running_there hosts i default node at

pub index_running : {T : Type 0} (hosts : List (NodeHost T)) (i : ℕ) (default : NodeHost T) (node found : Node T) → slice_get hosts i ≡ Some (Running node) → slice_index_or hosts i default ≡ Running found →
    slice_get hosts i ≡ Some (Running found)
index_running hosts i default node found at is = at ∙ ap Some (sym (index_running_there hosts i default node at) ∙ is)

pub not_stopped : {T : Type 0} (hosts : List (NodeHost T)) (i : ℕ) (default : NodeHost T) (node : Node T) (tape : T) → slice_get hosts i ≡ Some (Running node) → slice_index_or hosts i default ≡ Stopped tape → ⊥
not_stopped hosts i default node tape at is = running_stopped node tape (sym (index_running_there hosts i default node at) ∙ is)

pub ready_there : {T C : Type 0} (ready : C → Node T → Type 0) (client : C) (hosts : List (NodeHost T)) (i : ℕ) (node : Node T) → IsReadyFor ready client hosts i → slice_get hosts i ≡ Some (Running node) → ready client node
unfolding IsReadyFor
ready_there ready client hosts i node is at = is node at

-- Node i was asked.
pub asked_as : {T C : Type 0} (tapes : Tape T) (asks : C → Node T → Vec Message Global → Node T → C → Type 0) (hosts : List (NodeHost T)) (i : ℕ) (client next : C) (before after : Node T) (outputs : Vec Message Global) →
    slice_get hosts i ≡ Some (Running before) → asks client before outputs after next → IsAskedByClient asks i client (nodes_of hosts) outputs next (nodes_of (slice_set hosts i (Running after)))
asked_as tapes asks hosts i client next before after outputs at is = record {
  before = before;
  after = after;
  was = nodes_get hosts i (Running before) at;
  is = nodes_set hosts i (Running after);
  asked = is;
}

module _ {T : Type 0} (tapes : Tape T) (hosts : List (NodeHost T)) (i : ℕ) (before after : Node T) (outputs : List Message) (at : slice_get hosts i ≡ Some (Running before))
    (members : AreAtTheirIndex tapes.durable tapes.images tapes.never_fails hosts) (reaches : ReachabilityGoesOn tapes before outputs after) where
  -- The nodes are led on, and these messages were sent.
  pub asked_reaches : AreReachableSending tapes (nodes_of hosts) outputs (nodes_of (slice_set hosts i (Running after)))
  unfolding ReachabilityGoesOn
  asked_reaches = subst (λ ns. AreReachableSending tapes (nodes_of hosts) outputs ns) (sym (nodes_set hosts i (Running after)))
      (reaches (nodes_of hosts) i (nodes_get hosts i (Running before) at) (in_turn_of tapes.durable tapes.images tapes.never_fails hosts members))

  -- The entries are members still.
  pub asked_entries : IsSturdy tapes before after → KeepEntries tapes hosts (slice_set hosts i (Running after))
  unfolding StandAmong
  asked_entries sturdy =
      let turn = asked_reaches.turn in
      let now : slice_get (nodes_of (slice_set hosts i (Running after))) i ≡ Some after =
      subst (λ ns. slice_get ns i ≡ Some after) (sym (nodes_set hosts i (Running after))) (set_there (nodes_of hosts) i after before (nodes_get hosts i (Running before) at)) in
      let stands = turn.in_turn (in_turn_of tapes.durable tapes.images tapes.never_fails hosts members) i after now in
      let was = member_of tapes.durable tapes.images tapes.never_fails hosts i (Running before) at members in
      record {
        as_many = length-set hosts i (Running after);
        members = λ are.
            set_members tapes.durable tapes.images tapes.never_fails hosts i (Running before) (Running after) at
            (stands.0, stands.1 ∙ turn.as_many ∙ length-nodes hosts, λ h. sturdy (was.2 h).1 (was.2 h).0) are;
        kept = keep_set hosts i (Running before) (Running after) at (after, refl);
      }

-- ---- the farm

module _ {T : Type 0} (tapes : Tape T) where
  abbrev IsFarmOf : List (NodeHost T) → List Message → ℕ → Bool → Type 0
  IsFarmOf hosts sent pumped complete = IsSoundFarm tapes.durable tapes.images tapes.never_fails hosts sent pumped complete

  -- A farm whose nodes were led on is one, with no message left.
  pub farm_reachable : (hosts next : List (NodeHost T)) (sent : List Message) (pumped : ℕ) (complete : Bool) → IsFarmOf hosts sent pumped complete → KeepEntries tapes hosts next →
      AreReachableFrom tapes (nodes_of hosts) (nodes_of next) → IsFarmOf next [] 0 false
  farm_reachable hosts next sent pumped complete farm keep reachable =
      let long = keep.as_many in
      let members = keep.members farm.members in
      record {
        some = subst (λ k. 1 ≤ k) (sym long) farm.some;
        most = subst (λ k. k ≤ 64) (sym long) farm.most;
        members = members;
        pumped_within = omega arith;
        reached = λ h. reached_reachable tapes h hosts next keep.kept long farm.members members sent complete reachable (farm.reached h);
      }
