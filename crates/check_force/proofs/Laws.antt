pub mod Narrow
pub mod Quiet
pub mod Unforced
pub mod Force
pub mod Pass
pub mod Build
