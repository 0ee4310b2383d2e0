pub mod Arrival
pub mod Ends
pub mod Offers
pub mod Sent
