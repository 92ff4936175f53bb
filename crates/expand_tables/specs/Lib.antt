pub mod Added
pub mod Code
