pub mod Settled
pub mod Meanings
pub mod Chunks
pub mod Loops
pub mod Moves
