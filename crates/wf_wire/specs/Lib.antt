pub mod FromPeer
pub mod Offer
pub mod Post
pub mod Reception
pub mod Sending
pub mod Target
pub mod Theorem
pub mod ToPeer
