pub mod Changes
pub mod Faults
pub mod Marks
pub mod Moves
pub mod Reading
pub mod States
pub mod Table
