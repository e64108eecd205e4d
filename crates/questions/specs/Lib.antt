pub mod Coded
pub mod Members
pub mod Holdings
pub mod Places
