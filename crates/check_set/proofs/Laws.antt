pub mod Distinct
pub mod Finding
pub mod Meant
pub mod Judge
pub mod Found
pub mod Check
pub mod Forms
