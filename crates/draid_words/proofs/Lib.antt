mod Rows
pub mod Samples
