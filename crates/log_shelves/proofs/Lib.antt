pub mod Moves
pub mod Changes
