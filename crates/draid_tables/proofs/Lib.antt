pub mod Dealing
pub mod Fitting
pub mod Listing
pub mod Owning
pub mod Spans
