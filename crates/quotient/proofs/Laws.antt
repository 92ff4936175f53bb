pub mod Meaning
pub mod Program
pub mod Pass
pub mod Quotient
pub mod Plain
