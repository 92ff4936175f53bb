pub mod State
pub mod Calls
pub mod History
pub mod Code
