pub mod Moves
pub mod Rules
