pub mod Booleans
pub mod Limit
pub mod Number
pub mod NumberForm
pub mod NumberText
pub mod NumberTextTheorems
pub mod Text
pub mod ValueList
