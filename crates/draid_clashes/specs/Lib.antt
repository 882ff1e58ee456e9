pub mod Lanes
pub mod Mending
pub mod Named
