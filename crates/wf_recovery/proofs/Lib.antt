mod Fronts
mod Calls
