pub mod Perms
pub mod Rows
pub mod Shuffle
pub mod Words
