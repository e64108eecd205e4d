pub mod Finding
pub mod Changes
