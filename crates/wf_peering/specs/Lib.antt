pub mod Greeting
pub mod Orders
