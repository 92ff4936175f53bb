pub mod Restriction
pub mod Front
pub mod Prefix
pub mod Restrict
