pub mod Holders
pub mod Shelves
