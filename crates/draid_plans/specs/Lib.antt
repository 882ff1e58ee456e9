pub mod Ends
pub mod Layout
pub mod Logs
pub mod Plans
pub mod Targets
