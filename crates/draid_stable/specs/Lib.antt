pub mod Images
pub mod Kits
pub mod Opening
pub mod Sealing
pub mod Stable
pub mod Within
