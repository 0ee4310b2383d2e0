mod Answered
pub mod Cause
pub mod Continuation
pub mod Earlier
mod Learnt
mod Reached
