pub mod Fields
pub mod Run
pub mod Rules
pub mod Lines
pub mod Numbered
pub mod Ground
