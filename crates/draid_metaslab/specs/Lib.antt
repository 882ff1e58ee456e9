pub mod Spaces
pub mod Spots
