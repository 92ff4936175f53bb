pub mod Ground
pub mod Numbering
pub mod Program
pub mod Match
