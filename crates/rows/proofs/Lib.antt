pub mod Laid
pub mod Trays
