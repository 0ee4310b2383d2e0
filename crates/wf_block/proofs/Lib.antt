pub mod TokenLemmas
mod Prefix
pub mod Blocks
