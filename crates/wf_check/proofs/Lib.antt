mod Messages
pub mod Places
mod Reports
