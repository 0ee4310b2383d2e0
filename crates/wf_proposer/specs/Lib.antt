pub mod Responders
pub mod Proposal
pub mod VolatileState
pub mod Change
pub mod Next
pub mod StepRejection
pub mod ProposalState
pub mod Proposer
