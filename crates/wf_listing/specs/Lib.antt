pub mod Listing
pub mod TapeBytes
pub mod Map
