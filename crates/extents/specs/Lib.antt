pub mod Rows
pub mod Lawful
pub mod Map
pub mod Tape
pub mod Steps
