pub mod NumberLemmas
mod NumberJoined
mod NumberCut
mod Fraction
mod NumberWriteSequences
