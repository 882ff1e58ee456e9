pub mod Owner
pub mod Place
