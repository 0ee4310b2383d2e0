pub mod Common
mod Steps
mod Entries
pub mod Events
mod Idle
mod Allocation
mod Runs
mod Carried
mod Worlds
mod Listed
mod PumpResult
mod Answered
pub mod Nodes
pub mod Exchanges
mod CutTapes
mod Tried
mod Taken
mod TriedEvents
mod TornRuns
