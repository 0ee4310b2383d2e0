mod Causes
mod Clearing
mod Damage
mod Faults
mod Found
mod Joined
pub mod FarmPut
mod Kept
mod KeptFarm
mod Making
mod Opening
mod Own
mod PowerCut
mod Put
mod Raised
mod Reached
mod ReplacementFiles
mod Started
pub mod StartedFarm
mod Starting
mod Stays
