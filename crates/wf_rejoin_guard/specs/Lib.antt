pub mod Joined
pub mod Learned
