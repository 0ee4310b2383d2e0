pub mod Options
pub mod Pairs
pub mod Texts
pub mod Counted
pub mod RejectionTheorem
mod Taken
mod Keyword
