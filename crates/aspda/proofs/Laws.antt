pub mod Fit
pub mod Words
pub mod Verdicts
pub mod Lengths
pub mod Told
pub mod Exports
pub mod Assembly
