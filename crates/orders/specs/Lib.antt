pub mod Columns
pub mod Heads
pub mod Orders
