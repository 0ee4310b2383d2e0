-- What the farm's pump has done, it has done to the session's farm.
use Rattle.std.proofs.Common.{ap, subst}
use Rattle.wf_farm.specs.Farm.{MemoryFarm}
use Rattle.wf_farm.specs.Pump.{IsPumped}
use Rattle.wf_play.specs.Session.{Session}
use Rattle.wf_play.proofs.OrderEffect.{on_ok, pump_performed}
use Rattle.wf_play.proofs.Report.{also_ok, pump_reported}
use Rattle.wf_play.proofs.session.Session.pump.Goals as goal

pub returns-clause-does : goal.returns-clause-does
returns-clause-does g c =
    let done = subst (λ (farm : MemoryFarm). IsPumped c.args.nodes.now farm c.pump_by.new.self c.in-Ok.stopped) (ap (λ (s : Session). s.farm) c.self.view_is) c.in-Ok.ensures.done in
    on_ok c.write_pump.result (pump_performed c.args.nodes.now c.args.self.now.farm c.pump_by.new.self c.in-Ok.stopped done)

pub returns-clause-reports : goal.returns-clause-reports
returns-clause-reports g c =
    let done = subst (λ (farm : MemoryFarm). IsPumped c.args.nodes.now farm c.pump_by.new.self c.in-Ok.stopped) (ap (λ (s : Session). s.farm) c.self.view_is) c.in-Ok.ensures.done in
    also_ok c.write_pump.result (pump_reported c.args.nodes.now c.args.self.now.farm c.pump_by.new.self c.in-Ok.stopped _ _ done) c.write_pump.ensures.reported
