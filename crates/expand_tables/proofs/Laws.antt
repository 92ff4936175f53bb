pub mod Added
pub mod Mask
pub mod Place
pub mod Table
pub mod Update
