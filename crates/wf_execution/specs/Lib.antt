pub mod Run
pub mod RunTheorems
pub mod Execution
pub mod Theorems
pub mod Replica
pub mod Continuation
pub mod CrashImages
pub mod Processes
