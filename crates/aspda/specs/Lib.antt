pub mod Example
pub mod Claims
