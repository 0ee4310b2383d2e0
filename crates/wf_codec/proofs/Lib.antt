pub use Rattle.wf_canon.proofs.MeaningTheorem
pub mod Texts
pub mod Fields
pub mod Encoded
pub mod Validated
pub mod Faults
pub mod Reports
pub mod Better
