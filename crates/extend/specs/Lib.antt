pub mod Extend
pub mod Code
