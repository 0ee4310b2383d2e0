pub use Rattle.wf_voter.proofs.Earlier
mod Readers
