pub mod Back
pub mod Giving
pub mod Says
pub mod Sweeps
pub mod Tables
pub mod Taking
