pub mod Failing
pub mod Kits
pub mod Memory
pub mod Shelf
