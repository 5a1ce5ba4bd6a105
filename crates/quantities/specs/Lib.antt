pub mod Letters
pub mod Addresses
pub mod Sizes
