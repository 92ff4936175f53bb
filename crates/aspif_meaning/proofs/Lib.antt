pub mod Laws
pub mod Match
