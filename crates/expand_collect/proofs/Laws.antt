pub mod Collect
pub mod Room
