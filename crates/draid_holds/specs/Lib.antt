pub mod All
pub mod Calls
pub mod Holds
pub mod Lanes
pub mod Passes
