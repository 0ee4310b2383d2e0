-- A retry would be rejected as the proposer would reject it.
use Rattle.std.proofs.Common.{sym}
use Rattle.wf_model.specs.Table.{reject_retry}
use Rattle.wf_proposer.specs.Proposer.{volatile_of}
use Rattle.wf_node.specs.Parts.{stored_of}
use Rattle.wf_node.proofs.machine.Machine.retry_step_rejection.Goals as goal

pub returns : goal.returns
returns g c =
    c.fault_for.ensures (reject_retry (stored_of c.args.self.now.persistent.parts) (volatile_of c.args.self.now.proposer).proposing)
    (c.retry_step_rejection.ensures (stored_of c.args.self.now.persistent.parts) (sym c.last_round.ensures))
