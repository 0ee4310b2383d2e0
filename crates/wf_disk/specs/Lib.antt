pub mod Moments
pub mod Folder
pub mod Call
pub mod FolderTheorems
pub mod MemoryDisk
pub mod MemoryMoments
