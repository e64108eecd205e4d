pub mod Blanks
pub mod Laws
pub mod Parts
pub mod Racks
