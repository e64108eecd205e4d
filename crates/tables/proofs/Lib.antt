pub mod Members
pub mod Ties
