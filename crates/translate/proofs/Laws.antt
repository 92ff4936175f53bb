pub mod Pass
pub mod Translate
