pub mod Doubts
pub mod Landed
