pub mod Clocks
pub mod Moments
pub mod Sound
pub mod Spans
pub mod Splices
