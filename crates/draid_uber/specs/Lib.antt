pub mod Checks
pub mod Held
pub mod Points
pub mod Slots
pub mod Steps
pub mod Uber
