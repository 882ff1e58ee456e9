pub mod Field
pub mod Lanes
