pub mod Ranges
pub mod Moving
pub mod Turns
pub mod Arcs
