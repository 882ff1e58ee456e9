pub mod Says
pub mod Views
