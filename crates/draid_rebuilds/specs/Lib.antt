pub mod Landings
pub mod Mending
pub mod Stripes
