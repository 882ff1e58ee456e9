pub mod Leaves
pub mod Memory
pub mod Moments
pub mod Rack
pub mod Sectors
pub mod Shaped
pub mod Soft
