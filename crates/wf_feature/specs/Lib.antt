pub use Rattle.wf_block.specs.Grammar
pub use Rattle.wf_block.specs.Steps
pub use Rattle.wf_block.specs.ReadContract
pub mod Feature
pub mod Layers
