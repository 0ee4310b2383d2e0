-- The nodes were led on, and so the farm is reached from the start if it was.
use Rattle.std.proofs.Common.{◌≡◌, ◌++◌, ◌∙◌, false, length, take, drop, sym, ap, subst, arith}
use Rattle.wf_farm.proofs.Common.{slice_get_within, Running, IsExchange, IsSoundFarm, AreReachableFrom, KeepEntries, KeepHosts, RunsAt, nodes_in, nodes_of}
use Rattle.wf_farm.proofs.Exchanges.{farm_reachable}
use Rattle.wf_farm.proofs.Entries.{lent_back}
use Rattle.wf_farm.proofs.farm.Farm.exchange.Given as given
use Rattle.wf_farm.proofs.farm.Farm.exchange.Goals as goal

entries : (g : given.Over) (c : goal.After-self-3-1 g) → KeepEntries g.T.Tape c.self.inside.cluster.hosts.items c.exchange_in-pumped.new.hosts
entries g c = subst (λ ps. KeepEntries g.T.Tape ps c.exchange_in-pumped.new.hosts) c.deref_mut.ensures.value c.exchange_in-pumped.ensures.entries

-- the entries are as many as the list that lent them
returned : (g : given.Over) (c : goal.After-self-3-1 g) → take c.self.inside.cluster.hosts.len (c.exchange_in-pumped.new.hosts ++ drop (length c.exchange_in-pumped.new.hosts) c.self.inside.cluster.hosts.items) ≡ c.exchange_in-pumped.new.hosts
returned g c =
    lent_back c.self.inside.cluster.hosts.items c.exchange_in-pumped.new.hosts c.self.inside.cluster.hosts.len (omega (arith, c.deref_mut.ensures.len, ap length c.deref_mut.ensures.value))
    (c.exchange_in-pumped.ensures.entries.as_many ∙ ap length c.deref_mut.ensures.value)

pub exchange_in-pumped-requires-clause-within : goal.exchange_in-pumped-requires-clause-within
exchange_in-pumped-requires-clause-within g c =
    let runs = subst (λ ps. RunsAt ps c.args.number) (sym c.deref_mut.ensures.value) (subst (λ farm. RunsAt farm.hosts c.args.number) (sym c.self.view_is) c.requires.runs) in
    slice_get_within c.deref_mut.result.now c.args.number (Running runs.0) runs.1

pub exchange_in-pumped-requires-clause-runs : goal.exchange_in-pumped-requires-clause-runs
exchange_in-pumped-requires-clause-runs g c =
    subst (λ ps. RunsAt ps c.args.number) (sym c.deref_mut.ensures.value) (subst (λ farm. RunsAt farm.hosts c.args.number) (sym c.self.view_is) c.requires.runs)

pub invariant_of-self : goal.invariant_of-self
invariant_of-self g c =
    subst (λ ps. IsSoundFarm g.T.Tape.durable g.T.Tape.images g.T.Tape.never_fails ps c.replace.new.dest.items 0 false) (sym (returned g c))
    (subst (λ ms. IsSoundFarm g.T.Tape.durable g.T.Tape.images g.T.Tape.never_fails c.exchange_in-pumped.new.hosts ms 0 false) (sym (ap (λ v. v.items) c.replace.ensures.after ∙ c.new.ensures.items))
    (farm_reachable g.T.Tape c.self.inside.cluster.hosts.items c.exchange_in-pumped.new.hosts c.self.inside.cluster.sent.items c.self.inside.pumped c.self.inside.complete c.self.invariant
    (entries g c)
    (subst (λ ps. AreReachableFrom g.T.Tape (nodes_of ps) (nodes_of c.exchange_in-pumped.new.hosts)) c.deref_mut.ensures.value c.exchange_in-pumped.ensures.reachable)))

pub returns-clause-exchange : goal.returns-clause-exchange
returns-clause-exchange g c =
    subst (λ ps. IsExchange g.T.Tape g.C.NodeClient.asks c.args.number c.args.client.now (nodes_in c.args.self.now) c.exchange_in-pumped.result c.exchange_in-pumped.new.client (nodes_of ps)) (sym (returned g c))
    (subst (λ farm. IsExchange g.T.Tape g.C.NodeClient.asks c.args.number c.args.client.now (nodes_in farm) c.exchange_in-pumped.result c.exchange_in-pumped.new.client (nodes_of c.exchange_in-pumped.new.hosts)) c.self.view_is
    (subst (λ ps. IsExchange g.T.Tape g.C.NodeClient.asks c.args.number c.args.client.now (nodes_of ps) c.exchange_in-pumped.result c.exchange_in-pumped.new.client (nodes_of c.exchange_in-pumped.new.hosts)) c.deref_mut.ensures.value
    c.exchange_in-pumped.ensures.exchange))

pub returns-clause-reachable : goal.returns-clause-reachable
returns-clause-reachable g c =
    subst (λ ps. AreReachableFrom g.T.Tape (nodes_in c.args.self.now) (nodes_of ps)) (sym (returned g c))
    (subst (λ farm. AreReachableFrom g.T.Tape (nodes_in farm) (nodes_of c.exchange_in-pumped.new.hosts)) c.self.view_is
    (subst (λ ps. AreReachableFrom g.T.Tape (nodes_of ps) (nodes_of c.exchange_in-pumped.new.hosts)) c.deref_mut.ensures.value c.exchange_in-pumped.ensures.reachable))

pub returns-clause-kept : goal.returns-clause-kept
returns-clause-kept g c =
    subst (λ ps. KeepHosts c.args.self.now.hosts ps) (sym (returned g c))
    (subst (λ farm. KeepHosts farm.hosts c.exchange_in-pumped.new.hosts) c.self.view_is (entries g c).kept)
