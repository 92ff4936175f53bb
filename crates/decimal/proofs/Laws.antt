pub mod Decimal
pub mod Figures
pub mod Stores
pub mod Few
pub mod Runs
pub mod Thousands
pub mod Table
pub mod Joined
