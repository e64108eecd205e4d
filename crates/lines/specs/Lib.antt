pub mod Texts
pub mod Tokens
pub mod Reading
