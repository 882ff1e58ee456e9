pub mod Entries
pub mod History
pub mod Listed
pub mod Live
pub mod Maps
pub mod Owed
pub mod Thin
