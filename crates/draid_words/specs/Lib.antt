pub mod CommandLine
pub mod Mode
