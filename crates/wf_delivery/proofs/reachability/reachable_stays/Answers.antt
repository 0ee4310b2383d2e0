use Rattle.wf_delivery.proofs.OneRun.{reachable_stays_reachable, reachable_on_tape}
use Rattle.wf_delivery.proofs.reachability.reachable_stays.Goals as goal

pub returns-clause-any : goal.returns-clause-any
returns-clause-any g c = reachable_stays_reachable g.T.Tape

pub returns-clause-on_tape : goal.returns-clause-on_tape
returns-clause-on_tape g c = reachable_on_tape g.T.Tape
