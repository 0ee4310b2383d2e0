pub mod ServerReply
pub mod Responses
pub mod ResponsesTheorems
pub mod Turn
pub mod Visitors
