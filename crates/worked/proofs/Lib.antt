pub mod Labels
pub mod Numbers
pub mod Worked
