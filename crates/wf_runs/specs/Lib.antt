pub mod Session
pub mod Folder
pub mod Theorems
pub mod ServedSteps
pub mod CrashImages
pub mod Twice
