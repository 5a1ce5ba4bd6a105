pub mod Names
pub mod ByTag
pub mod Left
pub mod Rows
pub mod Parts
pub mod Roots
pub mod Plain
pub mod Finding
