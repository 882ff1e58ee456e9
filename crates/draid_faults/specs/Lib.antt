pub mod Calls
pub mod Crash
