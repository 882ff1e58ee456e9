pub mod Changes
pub mod Endings
pub mod Grown
pub mod Lefts
pub mod Lists
pub mod Sets
pub mod Walks
