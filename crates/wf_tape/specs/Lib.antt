pub mod Tape
pub mod TapeTheorems
pub mod Fuse
pub mod MemoryTape
pub mod MemoryMoments
pub mod Change
pub mod MomentTheorems
pub mod DiskTape
