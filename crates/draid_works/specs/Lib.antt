pub mod Job
pub mod Lanes
pub mod Mended
pub mod Replied
pub mod Switched
pub mod Told
pub mod Waiting
