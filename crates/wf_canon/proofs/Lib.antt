pub mod ClassTheorem
pub mod KnownText
pub mod LayerTheorem
pub mod MeaningTheorem
pub mod MapTheorem
pub mod NumberWord
pub mod Steps
pub mod TokenTheorem
