pub mod Deed
pub mod Trace
pub mod Order
pub mod Theorems
pub mod Course
pub mod Examples
