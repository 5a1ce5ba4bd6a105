pub mod Elements
pub mod Entries
pub mod Tests
pub mod Different
pub mod Steps
pub mod EachStart
