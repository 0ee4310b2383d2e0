pub use Rattle.wf_block.specs.Grammar
pub use Rattle.wf_block.specs.Steps
pub use Rattle.wf_block.specs.ReadContract
pub mod Color
pub mod Style
pub mod Label
pub mod Class
