pub mod LateAnswers
pub mod Offer
pub mod XmlText
pub mod Senders
