pub mod Trips
pub mod Stds
pub mod Bytes
