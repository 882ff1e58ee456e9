mod Given
mod Shares
