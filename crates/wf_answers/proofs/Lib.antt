pub mod LateAnswersTheorem
pub mod OfferTheorem
pub mod XmlTextTheorem
pub mod SendersTheorem
