pub mod Lines
pub mod Sink
pub mod Source
