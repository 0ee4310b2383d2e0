pub mod QuestionReplies
pub mod Exchanges
pub mod Readers
pub mod ReadersTheorems
pub mod ReadersPort
