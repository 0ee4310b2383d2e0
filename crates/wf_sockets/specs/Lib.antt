pub mod Moved
pub mod ConnectionSink
