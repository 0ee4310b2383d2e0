pub mod Folders
mod Noted
pub mod Turns
