mod Members
mod Facts
mod Monotonicity
mod SentMessage
mod RecordFacts
mod TransitionMessages
mod Ballots
mod Acceptor
mod Proposer
mod Worlds
mod Lossless
mod Core
mod Growth
pub mod Theorems
pub mod Replacement
pub mod Guard
pub mod Copies
mod Examples
pub mod Earlier
