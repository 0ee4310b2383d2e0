-- A pump to the nodes that the order names reports whether it stopped early.
use Rattle.wf_play.proofs.session.Session.obey.Goals as goal

pub returns-in-Pump-clause-reports : goal.returns-in-Pump-clause-reports
returns-in-Pump-clause-reports g c = rw c.in-Pump.is (rw c.deref-in-Pump.ensures.value at c.pump.ensures.reports)
