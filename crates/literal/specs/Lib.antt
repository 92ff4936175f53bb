pub mod Limits
pub mod Literal
pub mod Order
pub mod Code
