pub mod Appending
pub mod Lining
