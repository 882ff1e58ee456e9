pub mod Holds
pub mod Joins
mod LaneCalls
mod Lookups
mod Parts
mod Ran
pub mod Splits
pub mod Started
