pub mod NumberedLine
pub mod Finding
pub mod Message
pub mod Json
