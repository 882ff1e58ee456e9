mod Naming
mod Sharing
mod TwoMend
