pub mod ChosenTransition
pub mod Reported
