pub mod CatchUp
pub mod Moment
pub mod Waits
