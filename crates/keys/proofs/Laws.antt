pub mod Members
pub mod Sorted
pub mod Bytes
pub mod Literals
