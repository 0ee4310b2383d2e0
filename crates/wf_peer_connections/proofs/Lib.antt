pub mod Joining
mod Posted
