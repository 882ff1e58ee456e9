pub mod Ends
pub mod Exchanges
pub mod Holders
pub mod Walks
pub mod Ways
