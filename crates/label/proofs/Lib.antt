pub mod Tables
pub mod Shape
pub mod Places
pub mod Values
pub mod Derivation
pub mod Agreed
pub mod Fronts
