pub mod Ground
pub mod Occurring
pub mod Constraints
pub mod Numbering
pub mod Few
