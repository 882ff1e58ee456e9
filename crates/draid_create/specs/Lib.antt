pub mod Opening
pub mod Says
