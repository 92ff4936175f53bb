pub mod Place
pub mod Listed
pub mod Numbers
pub mod Limits
