pub mod Merge
pub mod Ends
pub mod Between
pub mod Halves
pub mod Repeats
