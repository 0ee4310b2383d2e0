pub mod Counted
pub mod Entries
pub mod Halves
pub mod Kept
pub mod Lines
pub mod Stages
pub mod Voters
