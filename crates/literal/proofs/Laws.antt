pub mod Literal
pub mod Order
pub mod Fields
pub mod Sign
