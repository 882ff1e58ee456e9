pub mod Acts
pub mod Reads
pub mod Segments
