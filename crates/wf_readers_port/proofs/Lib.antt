pub mod Exchanged
pub mod Replied
