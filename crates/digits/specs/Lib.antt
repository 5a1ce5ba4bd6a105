pub mod Runs
pub mod Decimal
pub mod Hex
pub mod Steps
