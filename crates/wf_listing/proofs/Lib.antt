mod Lines
mod Published
mod Splits
