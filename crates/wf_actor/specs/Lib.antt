pub use Rattle.wf_delivery.specs.Reachability
pub mod Backlog
pub mod Life
pub mod Start
pub mod Sent
pub mod Process
pub mod Farm
pub mod Responses
