pub mod Fault
pub mod ScriptRun
pub mod Session
pub mod OrderEffect
pub mod Comparison
pub mod Report
pub mod Theorem
pub mod PlayEnd
