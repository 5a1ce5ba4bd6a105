pub mod Characters
pub mod Text
pub mod Steps
