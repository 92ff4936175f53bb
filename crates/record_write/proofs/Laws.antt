pub mod Stores
pub mod Header
