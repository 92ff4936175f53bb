pub mod Code
pub mod Translate
