pub mod State
pub mod Handover
pub mod Refusals
pub mod Rules
pub mod Runs
pub mod Laws
pub mod Edits
pub mod Texts
