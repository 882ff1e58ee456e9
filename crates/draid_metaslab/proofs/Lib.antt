pub mod Kept
pub mod Searches
pub mod Untaken
pub mod Views
