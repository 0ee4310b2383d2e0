mod Folds
mod Transitions
mod Runs
mod Short
