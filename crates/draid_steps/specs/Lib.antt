pub mod Columns
pub mod Reads
pub mod Room
