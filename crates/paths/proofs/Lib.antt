pub mod Walks
pub mod Names
pub mod Delivering
pub mod Tables
pub mod Climbing
