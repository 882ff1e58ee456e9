pub mod Causes
pub mod Creation
pub mod FirstRecord
pub mod Fresh
pub mod Making
pub mod Opened
