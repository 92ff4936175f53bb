pub mod Fields
pub mod Reading
pub mod Statements
pub mod Length
pub mod Bound
pub mod Short
