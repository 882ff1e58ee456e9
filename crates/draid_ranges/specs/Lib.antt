pub mod Edits
pub mod Merges
pub mod Numbers
pub mod Runs
