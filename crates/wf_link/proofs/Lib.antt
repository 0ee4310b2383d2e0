mod Arrived
mod Causes
mod Crossed
mod Ends
