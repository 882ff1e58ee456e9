pub mod Folders
pub mod Names
pub mod Racks
pub mod Shelves
