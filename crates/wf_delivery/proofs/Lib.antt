pub mod Common
pub mod Turns
pub mod Runs
pub mod Stored
pub mod DeliveryCount
pub mod Deliveries
pub mod OneRun
pub mod Outcomes
mod Reopened
pub mod Alike
mod NewCommon
pub mod Rounds
pub mod UpTo
pub mod ThreeNodes
pub mod Exactly
pub mod Published
mod NewNodes
