pub mod Fetching
pub mod Holding
pub mod Landings
pub mod Reads
pub mod Tickets
