pub mod Meanings
pub mod Entities
