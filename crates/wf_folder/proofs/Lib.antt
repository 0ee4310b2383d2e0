mod Digits
pub mod Ends
pub mod Lines
pub mod Names
pub mod Numbers
pub mod Raised
pub mod WordLemmas
