pub mod Changed
pub mod Lost
pub mod Moved
pub mod Orders
pub mod Renewed
