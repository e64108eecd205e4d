pub mod Copies
pub mod Facts
