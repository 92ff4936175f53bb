pub mod Extent
pub mod Shown
pub mod Bounds
pub mod Record
