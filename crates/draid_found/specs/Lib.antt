pub mod Drops
pub mod Found
pub mod Older
pub mod Together
