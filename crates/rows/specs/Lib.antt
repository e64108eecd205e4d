pub mod Bytes
pub mod Rows
pub mod Ground
pub mod Trays
