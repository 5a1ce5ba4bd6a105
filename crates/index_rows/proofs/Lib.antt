pub mod Placing
pub mod Named
