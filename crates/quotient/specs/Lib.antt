pub mod Quotient
pub mod Code
