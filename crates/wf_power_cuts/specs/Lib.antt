pub mod Cut
pub mod Disks
