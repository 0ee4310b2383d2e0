pub mod Images
pub mod Fuses
pub mod Noted
pub mod Called
pub mod Folders
pub mod Turns
