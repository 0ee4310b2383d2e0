pub mod Timeline
pub mod Rejoining
pub mod Theorems
pub mod Examples
