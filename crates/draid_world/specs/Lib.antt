pub mod Laid
pub mod Lying
pub mod World
