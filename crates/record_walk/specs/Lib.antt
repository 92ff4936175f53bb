pub mod Code
pub mod Records
