pub mod Pairs
pub mod Nearest
pub mod Passed
