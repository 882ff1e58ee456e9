pub mod Blocks
pub mod Ends
pub mod Landings
pub mod Left
pub mod Logs
