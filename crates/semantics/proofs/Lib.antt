pub mod Laws
pub mod Match
pub mod FormMatch
