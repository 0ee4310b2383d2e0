pub use Rattle.wf_spelling.specs.Canon
pub use Rattle.wf_text.specs.NumberText as Number
pub mod TextMeaning
pub mod CanonFault
