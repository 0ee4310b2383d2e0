-- The state of a node's proposal.
use Rattle.std.specs.Prelude.{Bool, false, nat_le}
use Rattle.wf_def.specs.Definition.{Definition}
use Rattle.wf_model.specs.VolatileState as model
use Rattle.wf_proposer.specs.declared.proposal_state.ProposalState.{ProposalState}
use Rattle.wf_proposer.specs.declared.proposal_state.ProposalState.TheVariants.{None, Running, Published, Overtaken}

abbrev pub proposal_state_of : model.Proposing Definition → ProposalState
proposal_state_of model.Idle = None
proposal_state_of (model.Running proposal) = Running
proposal_state_of (model.Won s) = Published s
proposal_state_of (model.Overtaken s) = Overtaken s

-- whether a proposal runs of which a Nack has told that its round isn't the highest: it names a
-- promise of the same round or of a higher one
abbrev pub is_preempted : model.Proposing Definition → Bool
is_preempted model.Idle = false
is_preempted (model.Running proposal) = nat_le proposal.ballot.round proposal.seen
is_preempted (model.Won s) = false
is_preempted (model.Overtaken s) = false
