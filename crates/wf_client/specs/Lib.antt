pub mod Arrived
pub mod PartialRequest
pub mod ResponseBuffer
pub mod Client
pub mod Slots
