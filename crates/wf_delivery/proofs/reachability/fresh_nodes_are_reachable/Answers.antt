use Rattle.wf_delivery.proofs.OneRun.{fresh_are_reachable, fresh_on_tape}
use Rattle.wf_delivery.proofs.reachability.fresh_nodes_are_reachable.Goals as goal

pub returns-clause-any : goal.returns-clause-any
returns-clause-any g c = fresh_are_reachable _

pub returns-clause-on_tape : goal.returns-clause-on_tape
returns-clause-on_tape g c = fresh_on_tape _
