pub mod FileName
pub mod Fault
pub mod Call
pub mod CallTheorems
pub mod Texts
