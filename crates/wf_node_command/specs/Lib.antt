pub use Rattle.wf_loop.specs.Readers
pub mod Done
pub mod Learned
pub mod Running
