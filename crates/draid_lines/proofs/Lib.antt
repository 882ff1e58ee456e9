pub mod Apart
pub mod Copies
pub mod Ends
pub mod Given
