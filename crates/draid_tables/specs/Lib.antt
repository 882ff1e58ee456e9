pub mod Lists
pub mod Owns
pub mod Tables
