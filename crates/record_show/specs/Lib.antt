pub mod Show
pub mod Part
pub mod Code
