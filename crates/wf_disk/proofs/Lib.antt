pub mod Files
pub mod Failures
pub mod Noted
