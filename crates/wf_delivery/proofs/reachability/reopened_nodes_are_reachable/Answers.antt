use Rattle.wf_delivery.proofs.Reopened.{reopened_are_reachable, reopened_on_tape}
use Rattle.wf_delivery.proofs.reachability.reopened_nodes_are_reachable.Goals as goal

pub returns-clause-any : goal.returns-clause-any
returns-clause-any g c = reopened_are_reachable _ _

pub returns-clause-on_tape : goal.returns-clause-on_tape
returns-clause-on_tape g c = reopened_on_tape _ _
