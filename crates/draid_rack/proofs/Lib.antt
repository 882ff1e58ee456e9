pub mod Counted
pub mod Crashes
pub mod Flushed
pub mod Moments
pub mod Shapes
pub mod Softly
pub mod Sound
pub mod Tells
