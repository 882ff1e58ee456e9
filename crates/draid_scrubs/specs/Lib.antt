pub mod Healing
pub mod Patches
pub mod Scrubs
pub mod Wholes
