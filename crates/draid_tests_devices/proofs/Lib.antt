pub mod Areas
pub mod Sample
