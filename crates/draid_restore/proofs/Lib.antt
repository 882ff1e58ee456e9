mod ArmsRead
mod Asked
mod BlockLent
mod Chosen
mod LendSteps
pub mod LentReadable
mod Roomy
mod Solved
mod Units
