pub mod Pipe
pub mod Channel
pub mod Flow
