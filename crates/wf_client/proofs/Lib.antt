pub mod Waits
pub mod Weights
