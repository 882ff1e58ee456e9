pub mod Opening
pub mod Running
pub mod Seating
pub mod Section
pub mod Told
pub mod Turning
pub mod Whole
