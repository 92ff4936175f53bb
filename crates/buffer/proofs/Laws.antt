pub mod Bytes
pub mod Write
pub mod Next
pub mod Before
pub mod Writing
pub mod Begun
