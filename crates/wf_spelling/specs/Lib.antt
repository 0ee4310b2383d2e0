pub mod Canon
pub mod Draft
pub mod Opening
pub mod Scan
