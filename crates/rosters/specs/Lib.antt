pub mod Rows
pub mod Rosters
