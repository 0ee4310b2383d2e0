pub mod KindTable
pub mod Report
pub mod Message
pub mod Encoding
pub mod FormatTheorems
pub mod Fault
pub mod Stages
pub mod Theorem
