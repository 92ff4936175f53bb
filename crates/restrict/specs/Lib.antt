pub mod Restrict
pub mod Code
