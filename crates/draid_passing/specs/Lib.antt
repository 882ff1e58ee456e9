pub mod Ending
pub mod Flushing
pub mod Passing
