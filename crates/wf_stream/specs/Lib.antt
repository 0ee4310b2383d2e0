pub mod Memory
pub mod Effects
pub mod Stream
pub mod KnownTheorems
