pub mod Creation
pub mod History
pub mod Kinds
pub mod Within
