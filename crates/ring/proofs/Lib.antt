pub mod Performing
pub mod Memberships
pub mod Sending
pub mod Itemings
pub mod Collecting
pub mod Delivering
