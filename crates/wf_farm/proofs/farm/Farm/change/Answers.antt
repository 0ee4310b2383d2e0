-- The nodes were led on, and so the farm is reached from the start if it was.
use Rattle.std.proofs.Common.{◌≡◌, ◌++◌, ◌∙◌, ℕ, false, List, length, take, drop, sym, ap, subst, arith}
use Rattle.wf_farm.proofs.Common.{NodeHost, IsSoundFarm, AreReachableFrom, KeepEntries, KeepHosts, StandInTurn, nodes_in, nodes_of}
use Rattle.wf_farm.proofs.Exchanges.{farm_reachable}
use Rattle.wf_farm.proofs.Nodes.{in_turn_of}
use Rattle.wf_farm.proofs.Entries.{lent_back}
use Rattle.wf_tape.specs.declared.tape.Tape.{Ghosts as Tape}
use Rattle.wf_farm.proofs.farm.Farm.change.Goals as goal

-- The entries that were lent come back, as many as there were.
module _ {T : Type 0} (tapes : Tape T) (hosts lent next : List (NodeHost T)) (n : ℕ) (value : lent ≡ hosts) (long : length lent ≡ n) (keeps : KeepEntries tapes lent next) where
  entries : KeepEntries tapes hosts next
  entries = subst (λ ps. KeepEntries tapes ps next) value keeps

  returned : take n (next ++ drop (length next) hosts) ≡ next
  returned = lent_back hosts next n (sym long ∙ ap length value) (keeps.as_many ∙ ap length value)

pub change-requires : goal.change-requires
change-requires g c = record {
  some = omega (arith, c.self.invariant.some, ap length c.deref_mut.ensures.value);
  in_turn = subst (λ ps. StandInTurn (nodes_of ps)) (sym c.deref_mut.ensures.value)
      (in_turn_of g.T.Tape.durable g.T.Tape.images g.T.Tape.never_fails c.self.inside.cluster.hosts.items c.self.invariant.members);
}

pub invariant_of-self : goal.invariant_of-self
invariant_of-self g c =
    subst (λ ps. IsSoundFarm g.T.Tape.durable g.T.Tape.images g.T.Tape.never_fails ps c.replace.new.dest.items 0 false)
    (sym (returned g.T.Tape c.self.inside.cluster.hosts.items c.deref_mut.result.now c.change.new.hosts c.self.inside.cluster.hosts.len c.deref_mut.ensures.value c.deref_mut.ensures.len c.change.ensures.entries))
    (subst (λ ms. IsSoundFarm g.T.Tape.durable g.T.Tape.images g.T.Tape.never_fails c.change.new.hosts ms 0 false) (sym (ap (λ v. v.items) c.replace.ensures.after ∙ c.new.ensures.items))
    (farm_reachable g.T.Tape c.self.inside.cluster.hosts.items c.change.new.hosts c.self.inside.cluster.sent.items c.self.inside.pumped c.self.inside.complete c.self.invariant
    (entries g.T.Tape c.self.inside.cluster.hosts.items c.deref_mut.result.now c.change.new.hosts c.self.inside.cluster.hosts.len c.deref_mut.ensures.value c.deref_mut.ensures.len c.change.ensures.entries)
    (subst (λ ps. AreReachableFrom g.T.Tape (nodes_of ps) (nodes_of c.change.new.hosts)) c.deref_mut.ensures.value c.change.ensures.reaches)))

pub returns-clause-changes : goal.returns-clause-changes
returns-clause-changes g c =
    subst (λ ps. g.C.FarmClient.changes c.args.client.now (nodes_in c.args.self.now) (nodes_of ps) c.change.new.self)
    (sym (returned g.T.Tape c.self.inside.cluster.hosts.items c.deref_mut.result.now c.change.new.hosts c.self.inside.cluster.hosts.len c.deref_mut.ensures.value c.deref_mut.ensures.len c.change.ensures.entries))
    (subst (λ farm. g.C.FarmClient.changes c.args.client.now (nodes_in farm) (nodes_of c.change.new.hosts) c.change.new.self) c.self.view_is
    (subst (λ ps. g.C.FarmClient.changes c.args.client.now (nodes_of ps) (nodes_of c.change.new.hosts) c.change.new.self) c.deref_mut.ensures.value c.change.ensures.changes))

pub returns-clause-reachable : goal.returns-clause-reachable
returns-clause-reachable g c =
    subst (λ ps. AreReachableFrom g.T.Tape (nodes_in c.args.self.now) (nodes_of ps))
    (sym (returned g.T.Tape c.self.inside.cluster.hosts.items c.deref_mut.result.now c.change.new.hosts c.self.inside.cluster.hosts.len c.deref_mut.ensures.value c.deref_mut.ensures.len c.change.ensures.entries))
    (subst (λ farm. AreReachableFrom g.T.Tape (nodes_in farm) (nodes_of c.change.new.hosts)) c.self.view_is
    (subst (λ ps. AreReachableFrom g.T.Tape (nodes_of ps) (nodes_of c.change.new.hosts)) c.deref_mut.ensures.value c.change.ensures.reaches))

pub returns-clause-kept : goal.returns-clause-kept
returns-clause-kept g c =
    subst (λ ps. KeepHosts c.args.self.now.hosts ps)
    (sym (returned g.T.Tape c.self.inside.cluster.hosts.items c.deref_mut.result.now c.change.new.hosts c.self.inside.cluster.hosts.len c.deref_mut.ensures.value c.deref_mut.ensures.len c.change.ensures.entries))
    (subst (λ farm. KeepHosts farm.hosts c.change.new.hosts) c.self.view_is
    (entries g.T.Tape c.self.inside.cluster.hosts.items c.deref_mut.result.now c.change.new.hosts c.self.inside.cluster.hosts.len c.deref_mut.ensures.value c.deref_mut.ensures.len c.change.ensures.entries).kept)
