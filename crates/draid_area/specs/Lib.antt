pub mod Area
pub mod Cells
pub mod Memory
pub mod Moments
