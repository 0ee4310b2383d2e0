pub mod Written
pub mod LengthTests
