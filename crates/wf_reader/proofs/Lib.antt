pub mod Fields
pub mod Next
pub mod Parts
pub mod Sizes
pub mod Texts
