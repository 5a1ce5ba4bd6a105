pub mod Tests
pub mod Sums
