pub mod Pass
pub mod Blocks
pub mod Text
pub mod Outcome
