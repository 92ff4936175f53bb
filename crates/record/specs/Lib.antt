pub mod Refusal
pub mod Result
pub mod Meets
pub mod Header
pub mod Layout
pub mod Reading
pub mod Code
