pub mod Counting
pub mod Layout
pub mod Lying
pub mod Missed
pub mod Silent
