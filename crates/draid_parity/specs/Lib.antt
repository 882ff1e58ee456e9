pub mod Codeword
pub mod Columns
pub mod Equations
pub mod Lending
pub mod Rows
