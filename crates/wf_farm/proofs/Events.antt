-- One event: the entry that it is about is set, and the farm is the model's world after it.
use Rattle.std.proofs.Common.{◌≡◌, ℕ, zero, suc, List, [], ◌∷◌, length, slice_get, slice_set, Option, Some, None, Result, Ok, Err, IfOk, IfSome, OnErr, refl, sym, ap, subst, ◌∙◌, inl, inr, length-set}
use Rattle.wf_farm.proofs.Common.{cases_eq, none-some, same_Some, Message, Definition, World, after_restart, after_stop, happens, refused, AreSoundHosts, KeepMembers, Happens, StayShown, MemoryHost, HostsNode, IsHostOf, HostStays, KeepsMember, KeepsSturdy, Stops, Restarts, tape_in, node_restarted, node_stopped, IsImageNow, NeverFails, get_set_same, get_set_other, set_same}
use Rattle.wf_model.specs.World as world
use Rattle.wf_farm.specs.Cluster.{AreNodes, Refines}
use Rattle.wf_delivery.proofs.Turns.{stop_sets, restart_sets}
use Rattle.wf_farm.proofs.Entries as entries
use Rattle.wf_farm.proofs.Steps.{stops_changed}

-- ---- entries and nodes

-- if there is an entry, its node is at the same index
pub node_at : (hosts : List MemoryHost) (nodes : List (world.Node Definition)) (i : ℕ) (host : MemoryHost) → AreNodes hosts nodes → slice_get hosts i ≡ Some host →
    (node : world.Node Definition) × (slice_get nodes i ≡ Some node) × HostsNode host node
node_at hosts nodes i host are e = entries.node_at IsImageNow hosts nodes i host are e

-- if there is none, there is no node
pub none_at : (hosts : List MemoryHost) (nodes : List (world.Node Definition)) (i : ℕ) → AreNodes hosts nodes → slice_get hosts i ≡ None → slice_get nodes i ≡ None
none_at [] [] i are e = refl
none_at [] (node ∷ nodes) i are e = absurd are
none_at (p ∷ hosts) [] i are e = absurd are
none_at (p ∷ hosts) (node ∷ nodes) zero are e = absurd (none-some p (sym e))
none_at (p ∷ hosts) (node ∷ nodes) (suc i) are e = none_at hosts nodes i are.1 e

pub as_many : (hosts : List MemoryHost) (nodes : List (world.Node Definition)) → AreNodes hosts nodes → length nodes ≡ length hosts
as_many hosts nodes are = entries.as_many IsImageNow hosts nodes are

pub set_nodes : (hosts : List MemoryHost) (nodes : List (world.Node Definition)) (i : ℕ) (host : MemoryHost) (node : world.Node Definition) → AreNodes hosts nodes → HostsNode host node →
    AreNodes (slice_set hosts i host) (slice_set nodes i node)
set_nodes [] [] i host node are is = tt
set_nodes [] (x ∷ nodes) i host node are is = absurd are
set_nodes (p ∷ hosts) [] i host node are is = absurd are
set_nodes (p ∷ hosts) (x ∷ nodes) zero host node are is = (is, are.1)
set_nodes (p ∷ hosts) (x ∷ nodes) (suc i) host node are is = (are.0, set_nodes hosts nodes i host node are.1 is)

-- ---- members

-- nothing has changed
pub same_members : (hosts : List MemoryHost) → KeepMembers hosts hosts
same_members hosts = record { as_many = refl; members = λ are. are; sturdy = λ i host at. (host, at, λ never. never) }

pub keep_twice : (hosts middle after : List MemoryHost) → KeepMembers hosts middle → KeepMembers middle after → KeepMembers hosts after
keep_twice hosts middle after first second = record {
  as_many = second.as_many ∙ first.as_many;
  members = λ are. second.members (first.members are);
  sturdy = λ i host at.
      let here = second.sturdy i host at in
      let was = first.sturdy i here.0 here.1 in
      (was.0, was.1, λ never. here.2 (was.2 never));
}

-- A member that replaces one.
pub set_members : (hosts : List MemoryHost) (i : ℕ) (host after : MemoryHost) → slice_get hosts i ≡ Some host →
    (IsHostOf (length hosts) i host → IsHostOf (length hosts) i after) → AreSoundHosts hosts → AreSoundHosts (slice_set hosts i after)
unfolding AreSoundHosts
set_members hosts i host after at keeps are = λ j p e. subst (λ n. IsHostOf n j p) (sym (length-set hosts i after)) (elim (cases_eq j i) [
  | inl same ↦ subst (λ k. IsHostOf (length hosts) k p) (sym same)
      (subst (IsHostOf (length hosts) i) (get_set_same hosts i after host p at (subst (λ k. slice_get (slice_set hosts i after) k ≡ Some p) same e)) (keeps (are i host at)))
  | inr differs ↦ are j p (sym (get_set_other hosts i j after differs) ∙ e)
])

pub host_members : (hosts : List MemoryHost) (i : ℕ) (host after : MemoryHost) → slice_get hosts i ≡ Some host →
    (IsHostOf (length hosts) i host → IsHostOf (length hosts) i after) → KeepsSturdy host after → KeepMembers hosts (slice_set hosts i after)
host_members hosts i host after at keeps sturdy = record {
  as_many = length-set hosts i after;
  members = set_members hosts i host after at keeps;
  sturdy = λ j p e. elim (cases_eq j i) [
    | inl same ↦ (
      host,
      subst (λ k. slice_get hosts k ≡ Some host) (sym same) at,
      λ never. subst (λ q. NeverFails (tape_in q)) (get_set_same hosts i after host p at (subst (λ k. slice_get (slice_set hosts i after) k ≡ Some p) same e)) (sturdy never),
    )
    | inr differs ↦ (p, sym (get_set_other hosts i j after differs) ∙ e, λ never. never)
  ];
}

-- A farm keeps its members where one entry is set, with the number of entries and the entry's index
-- given by other names.
pub cast_members : (hosts : List MemoryHost) (i : ℕ) (host after : MemoryHost) (n id : ℕ) → slice_get hosts i ≡ Some host → n ≡ length hosts → id ≡ i → (IsHostOf n id host → IsHostOf n id after) →
    KeepsSturdy host after → KeepMembers hosts (slice_set hosts i after)
cast_members hosts i host after n id at many is keeps sturdy = host_members hosts i host after at
    (subst (λ k. IsHostOf (length hosts) k host → IsHostOf (length hosts) k after) is (subst (λ k. IsHostOf k id host → IsHostOf k id after) many keeps)) sturdy

-- The number that a node number was made of.
pub cast_id : (found : Option ℕ) (id number i : ℕ) → found ≡ Some id → IfSome found (λ x. x ≡ number) → number ≡ i → id ≡ i
cast_id None id number i is made same = absurd (none-some id is)
cast_id (Some x) id number i is made same = sym (same_Some x id is) ∙ made ∙ same

pub host_keeps : (hosts : List MemoryHost) (i : ℕ) (host after : MemoryHost) → slice_get hosts i ≡ Some host → KeepsMember host after → KeepsSturdy host after → KeepMembers hosts (slice_set hosts i after)
unfolding KeepsMember
host_keeps hosts i host after at keeps sturdy = host_members hosts i host after at (keeps (length hosts) i) sturdy

pub member_at : (hosts : List MemoryHost) (i : ℕ) (host : MemoryHost) → AreSoundHosts hosts → slice_get hosts i ≡ Some host → IsHostOf (length hosts) i host
unfolding AreSoundHosts
member_at hosts i host members at = members i host at

-- ---- an entry that is set

module _ (hosts : List MemoryHost) (sent : List Message) (i : ℕ) where
  -- An entry that is unchanged.
  pub host_stays : (host after : MemoryHost) → slice_get hosts i ≡ Some host → HostStays host after → StayShown hosts sent (slice_set hosts i after) sent
  unfolding HostStays StayShown
  host_stays host after at stays = λ w refines.
      let here = node_at hosts w.nodes i host refines.nodes at in
      record { nodes = subst (AreNodes (slice_set hosts i after)) (set_same w.nodes i here.0 here.1) (set_nodes hosts w.nodes i after here.0 refines.nodes (stays here.0 here.2)); messages = refines.messages }

  pub nothing_stays : StayShown hosts sent hosts sent
  unfolding StayShown
  nothing_stays = λ w refines. refines

  absent_in : slice_get hosts i ≡ None → (w : World Definition) → Refines hosts sent w → slice_get w.nodes i ≡ None
  absent_in none w refines = none_at hosts w.nodes i refines.nodes none

  -- ---- a stop and a restart

  pub host_stops : (host after : MemoryHost) → slice_get hosts i ≡ Some host → AreSoundHosts hosts → Stops host after → Happens (world.Stop i) None hosts sent (slice_set hosts i after) sent
  unfolding happens refused
  host_stops host after at members stopped = record {
    reaches = λ w refines.
        let here = node_at hosts w.nodes i host refines.nodes at in
        subst (Refines (slice_set hosts i after) sent) (sym (stop_sets w i here.0 here.1))
        (record { nodes = set_nodes hosts w.nodes i after (node_stopped here.0) refines.nodes (stops_changed (length hosts) i host after (member_at hosts i host members at) stopped here.0 here.2); messages = refines.messages });
    why = λ w refines. refl;
  }

  pub absent_stops : slice_get hosts i ≡ None → Happens (world.Stop i) None hosts sent hosts sent
  unfolding happens refused after_stop
  absent_stops none = record {
    reaches = λ w refines. subst (Refines hosts sent) (sym (ap (after_stop w i) (absent_in none w refines))) refines;
    why = λ w refines. refl;
  }

  pub host_restarts : (host after : MemoryHost) → slice_get hosts i ≡ Some host → Restarts host after → Happens (world.Restart i) None hosts sent (slice_set hosts i after) sent
  unfolding happens refused Restarts
  host_restarts host after at restarted = record {
    reaches = λ w refines.
        let here = node_at hosts w.nodes i host refines.nodes at in
        subst (Refines (slice_set hosts i after) sent) (sym (restart_sets w i here.0 here.1))
        (record { nodes = set_nodes hosts w.nodes i after (node_restarted here.0) refines.nodes (restarted here.0 here.2); messages = refines.messages });
    why = λ w refines. refl;
  }

  pub absent_restarts : slice_get hosts i ≡ None → Happens (world.Restart i) None hosts sent hosts sent
  unfolding happens refused after_restart
  absent_restarts none = record {
    reaches = λ w refines. subst (Refines hosts sent) (sym (ap (after_restart w i) (absent_in none w refines))) refines;
    why = λ w refines. refl;
  }

-- ---- results

pub ok_map : {A E : Type 0} (P Q : A → Type 0) (result : Result A E) → ((x : A) → P x → Q x) → IfOk result P → IfOk result Q
ok_map P Q (Ok x) f p = f x p
ok_map P Q (Err e) f p = tt

pub on_err : {A E P : Type 0} (result : Result A E) → P → OnErr result P
on_err (Ok x) p = tt
on_err (Err e) p = p
