pub mod Marks
pub mod Code
