pub mod Verdict
pub mod Check
pub mod Code
pub mod Meets
