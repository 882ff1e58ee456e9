pub mod Apart
pub mod Distinct
pub mod Radix
pub mod Runs
