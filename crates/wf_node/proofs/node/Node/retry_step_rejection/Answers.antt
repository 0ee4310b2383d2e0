-- The node's result is that of its parts.
use Rattle.std.proofs.Common.{sym, subst}
use Rattle.wf_model.specs.Table.{reject_retry}
use Rattle.wf_node.specs.Fault.{IsWhyNot}
use Rattle.wf_node.specs.Node.{stored_of, volatile_of}
use Rattle.wf_node.specs.Parts as parts
use Rattle.wf_node.proofs.Shown.{volatile_shown}
use Rattle.wf_node.proofs.node.Node.retry_step_rejection.Goals as goal

pub returns-clause-step_rejection : goal.returns-clause-step_rejection
returns-clause-step_rejection g c = λ running.
    subst (λ node. IsWhyNot (reject_retry (stored_of node) (volatile_of node).proposing) c.retry_step_rejection.result) c.self.view_is
    (subst (λ volatile. IsWhyNot (reject_retry (parts.stored_of c.self.inside.machine.persistent.parts) volatile.proposing) c.retry_step_rejection.result) (sym (volatile_shown c.self.inside.machine.proposer.volatile)) c.retry_step_rejection.ensures)
