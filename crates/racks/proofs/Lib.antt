pub mod Cuts
pub mod Stays
