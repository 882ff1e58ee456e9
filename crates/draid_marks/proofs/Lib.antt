pub mod Answering
pub mod Counting
pub mod Lies
pub mod Marking
pub mod Missing
pub mod Places
pub mod Silence
pub mod Thinning
