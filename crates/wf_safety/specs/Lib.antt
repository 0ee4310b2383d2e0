pub mod Earlier
pub mod Theorems
pub mod Replacement
pub mod Examples
