pub mod Shown
pub mod Viewed
