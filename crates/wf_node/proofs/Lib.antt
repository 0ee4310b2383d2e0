mod Acts
mod Folded
mod Fold
mod PersistentPart
mod Opened
mod Pushed
mod Moved
mod Replies
mod Rewrite
mod Transitions
mod Shortened
mod Shown
mod Steps
mod Voted
pub mod Histories
