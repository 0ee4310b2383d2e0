pub mod ResponderSets
pub mod Begun
pub mod Counted
