pub mod Places
pub mod Normal
pub mod File
