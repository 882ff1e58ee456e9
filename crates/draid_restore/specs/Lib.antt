pub mod Loans
pub mod Reading
pub mod Restoring
pub mod Rooms
