pub mod Values
pub mod Widths
pub mod Short
pub mod Numbers
pub mod Left
pub mod FormerTable
pub mod HexDigits
pub mod Spelled
