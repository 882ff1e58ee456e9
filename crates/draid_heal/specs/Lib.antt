pub mod Arms
pub mod Lands
pub mod Row
pub mod Rows
pub mod Settle
pub mod Stands
