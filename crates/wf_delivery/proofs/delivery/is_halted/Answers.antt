-- A halted node rejects every proposal as one that is halted; a running one never does.
use Rattle.std.proofs.Common.{◌∙◌}
use Rattle.wf_delivery.proofs.Deliveries.{halt_reported}
use Rattle.wf_delivery.proofs.delivery.is_halted.Goals as goal

pub returns : goal.returns
returns g c = c.is_halt_reported.ensures ∙ halt_reported c.args.node.now.halted _ c.proposal_step_rejection.result c.proposal_step_rejection.ensures.halted c.proposal_step_rejection.ensures.step_rejection
