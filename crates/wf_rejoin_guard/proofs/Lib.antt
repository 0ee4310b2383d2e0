pub mod Guard
pub mod Lists
pub mod Sayings
pub mod Lessons
pub mod Learned
pub mod Reports
pub mod Learners
