pub mod Counted
pub mod Keys
pub mod Made
pub mod Owing
pub mod Sets
pub mod Staying
pub mod Sums
