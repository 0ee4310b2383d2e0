-- The result is the beginning of a proposal, at the sequence of the running one.
use Rattle.wf_proposer.proofs.Begun.{again_answer}
use Rattle.wf_proposer.proofs.proposer.Proposer.retry.Goals as goal

pub returns-in-Running-clause-transition : goal.returns-in-Running-clause-transition
returns-in-Running-clause-transition c stored same =
    rw (← c.self.view_is)
    (λ for_next. again_answer c.again.result c.self.inside.volatile.leadership c.self.inside.volatile.proposing c.in-Running.proposal _ _ _ stored c.in-Running.is same for_next c.again.ensures.transition)
