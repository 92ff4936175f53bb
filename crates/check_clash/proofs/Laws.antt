pub mod Clash
pub mod Opposed
