pub mod Arrival
pub mod Cause
pub mod Connection
pub mod MessageCrossing
