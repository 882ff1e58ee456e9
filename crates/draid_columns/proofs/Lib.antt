pub mod Flushing
pub mod Reading
pub mod Written
