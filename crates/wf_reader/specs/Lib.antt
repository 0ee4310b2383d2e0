pub mod ReaderAnswer
pub mod Answerer
pub mod Question
pub mod ReplyReader
pub mod Reply
