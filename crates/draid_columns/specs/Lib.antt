pub mod Columns
pub mod Flushes
