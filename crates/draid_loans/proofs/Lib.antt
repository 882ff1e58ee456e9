pub mod Firsts
pub mod Loaned
