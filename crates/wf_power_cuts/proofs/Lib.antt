pub mod DiskLemmas
mod Noting
mod OneDisk
mod Told
