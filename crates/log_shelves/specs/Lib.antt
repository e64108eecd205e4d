pub mod Trays
pub mod Held
pub mod Cells
pub mod Fits
