-- The node tells why it would reject a proposal or a retry.
use Rattle.std.proofs.Common.{sym, subst}
use Rattle.wf_farm.proofs.Common.{numbered, ReportsWhyNot}
use Rattle.wf_farm.proofs.Idle.{reports_proposal, reports_retry}
use Rattle.wf_farm.proofs.farm_event.step_rejection.Goals as goal

pub returns-in-Propose : goal.returns-in-Propose
returns-in-Propose g c = λ runs.
    subst (λ a. ReportsWhyNot c.args.node.now (numbered a) c.proposal_step_rejection.result) (sym c.in-Propose.is) (reports_proposal c.args.node.now c.proposal_step_rejection.result _ (c.proposal_step_rejection.ensures.step_rejection runs))

pub returns-in-Retry : goal.returns-in-Retry
returns-in-Retry g c = λ runs. subst (λ a. ReportsWhyNot c.args.node.now (numbered a) c.retry_step_rejection.result) (sym c.in-Retry.is) (reports_retry c.args.node.now c.retry_step_rejection.result (c.retry_step_rejection.ensures.step_rejection runs))
