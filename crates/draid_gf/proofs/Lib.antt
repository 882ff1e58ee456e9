pub mod Computed
pub mod Linear
pub mod Product
pub mod Laws
pub mod Powers
pub mod LaneLemmas
pub mod Kernels
