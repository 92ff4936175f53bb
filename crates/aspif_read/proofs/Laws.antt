pub mod Literals
pub mod Body
pub mod Program
