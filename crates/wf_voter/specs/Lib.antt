pub mod Answer
pub mod Cause
pub mod Continuation
pub mod Folder
pub mod Lived
pub mod Process
pub mod Reach
