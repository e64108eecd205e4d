pub mod Worked
pub mod Week
pub mod Runs1
pub mod Runs2
pub mod Runs3
pub mod Checks
