pub mod Distances
pub mod Places
pub mod Owners
pub mod Searches
