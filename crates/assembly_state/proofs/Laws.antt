pub mod Tally
pub mod Inspect
