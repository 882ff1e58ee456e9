pub mod BaseRows
pub mod Children
pub mod FillLemmas
pub mod Permuted
pub mod Same
pub mod RowOrders
pub mod Shuffles
pub mod Turns
