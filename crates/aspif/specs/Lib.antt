pub mod Aspif
pub mod Code
