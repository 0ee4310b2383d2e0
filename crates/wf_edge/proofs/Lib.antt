mod PublishTheorem
mod RequestTheorem
pub mod ServiceTheorem
mod UnavailableTheorem
