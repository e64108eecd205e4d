pub mod Coordinates
pub mod Facts
pub mod Records
