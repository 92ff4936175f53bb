pub mod Names
pub mod Pairs
pub mod Places
