pub mod Inputs
pub mod Code
