-- The node's result is that of its parts.
use Rattle.std.proofs.Common.{sym, subst}
use Rattle.wf_model.specs.Table.{reject_proposal}
use Rattle.wf_node.specs.Fault.{IsWhyNot}
use Rattle.wf_node.specs.Node.{stored_of, volatile_of}
use Rattle.wf_node.specs.Parts as parts
use Rattle.wf_node.proofs.Shown.{volatile_shown}
use Rattle.wf_node.proofs.node.Node.proposal_step_rejection.Goals as goal

pub returns-clause-step_rejection : goal.returns-clause-step_rejection
returns-clause-step_rejection g c = λ running.
    subst (λ node. IsWhyNot (reject_proposal (stored_of node) (volatile_of node).leadership (volatile_of node).proposing) c.proposal_step_rejection.result) c.self.view_is
    (subst (λ volatile. IsWhyNot (reject_proposal (parts.stored_of c.self.inside.machine.persistent.parts) volatile.leadership volatile.proposing) c.proposal_step_rejection.result) (sym (volatile_shown c.self.inside.machine.proposer.volatile)) c.proposal_step_rejection.ensures)
