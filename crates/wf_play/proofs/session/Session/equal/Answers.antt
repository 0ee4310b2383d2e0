-- What holds of the farm inside holds of the session's.
use Rattle.std.proofs.Common.{ap, subst}
use Rattle.std.specs.Prelude.{IfOk, IfErr}
use Rattle.wf_farm.specs.Farm.{MemoryFarm}
use Rattle.wf_play.specs.Session.{Session}
use Rattle.wf_play.specs.Comparison.{Compares, IsTrueWhereOne, IsUncompared}
use Rattle.wf_play.proofs.session.Session.equal.Goals as goal

pub returns-clause-test : goal.returns-clause-test
returns-clause-test c =
    subst (λ (farm : MemoryFarm). IfOk c.compare_nodes.result (λ equal. Compares farm c.args.first c.args.second c.args.query.now equal)) (ap (λ (s : Session). s.farm) c.self.view_is)
    c.compare_nodes.ensures.test

pub returns-clause-theorem : goal.returns-clause-theorem
returns-clause-theorem c =
    subst (λ (farm : MemoryFarm). IfOk c.compare_nodes.result (λ equal. IsTrueWhereOne farm c.args.first c.args.second c.args.query.now equal)) (ap (λ (s : Session). s.farm) c.self.view_is)
    c.compare_nodes.ensures.theorem

pub returns-clause-fault : goal.returns-clause-fault
returns-clause-fault c =
    subst (λ (farm : MemoryFarm). IfErr c.compare_nodes.result (λ fault. IsUncompared farm c.args.first c.args.second fault)) (ap (λ (s : Session). s.farm) c.self.view_is)
    c.compare_nodes.ensures.fault
