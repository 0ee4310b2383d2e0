pub mod Image
pub mod Picture
pub mod Request
pub mod Tiles
