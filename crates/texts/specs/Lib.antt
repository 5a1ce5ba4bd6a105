pub mod Decoded
pub mod Steps
