pub mod Entries
pub mod Search
pub mod Applied
pub mod Answered
pub mod Reported
pub mod Compared
