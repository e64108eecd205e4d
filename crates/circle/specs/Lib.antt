pub mod Circle
pub mod Owners
pub mod Laws
