pub mod Structure
pub mod Entries
pub mod SweepSteps
pub mod Respelled
pub mod Index
pub mod Places
pub mod Steps
