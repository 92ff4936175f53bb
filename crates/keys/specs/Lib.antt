pub mod Keys
pub mod Code
