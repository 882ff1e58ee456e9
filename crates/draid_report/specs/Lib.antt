pub mod Text
pub mod Tree
