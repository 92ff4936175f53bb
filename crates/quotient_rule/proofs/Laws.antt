pub mod Left
pub mod Rule
pub mod Options
pub mod Remainder
