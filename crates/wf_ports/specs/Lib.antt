pub mod Address
pub mod Socket
