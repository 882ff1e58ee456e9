pub mod Arms
pub mod Clocks
pub mod Faults
pub mod Numbers
pub mod Spares
