pub mod Member
pub mod Part
pub mod Rest
pub mod Single
pub mod Count
pub mod Place
