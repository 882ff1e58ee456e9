pub mod Changes
pub mod Losing
pub mod Order
pub mod Places
pub mod States
