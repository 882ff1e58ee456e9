pub mod Booking
pub mod JobsMade
pub mod LanesGiven
pub mod LanesRefused
pub mod LanesRun
