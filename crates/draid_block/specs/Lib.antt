pub mod Blocks
pub mod Columns
pub mod Many
pub mod Order
pub mod Search
pub mod Solving
