pub mod Faults
pub mod Headers
pub mod WholeMessages
pub mod Joined
pub mod Split
mod Spelled
mod Outboxes
mod Streams
mod Received
mod Ends
