pub mod Marks
pub mod Options
