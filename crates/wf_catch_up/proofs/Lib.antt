mod Common
mod Level
mod Asked
mod Changes
