pub mod Vol1
pub mod Steps
