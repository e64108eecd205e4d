pub mod Settled
pub mod Checks
