pub mod Anyone
pub mod Claiming
pub mod Copied
