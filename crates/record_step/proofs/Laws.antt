pub mod Front
pub mod Judged
