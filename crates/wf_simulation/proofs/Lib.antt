pub mod Keeps
pub mod Pipes
