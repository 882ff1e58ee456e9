mod Born
pub mod Noted
pub mod Together
mod NewestBeside
pub mod Listing
