pub mod Labels
pub mod Steps
pub mod Places
