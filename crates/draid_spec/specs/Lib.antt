pub mod Geometry
pub mod Grammar
pub mod Multiple
pub mod Name
pub mod Said
pub mod Spec
pub mod Text
