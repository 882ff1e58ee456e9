pub mod Holdings
pub mod Nothing
pub mod Taken
