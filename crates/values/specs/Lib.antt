pub mod Values
pub mod Spells
pub mod Steps
