pub mod Copies
pub mod Openings
pub mod Seals
