pub mod Booleans
pub mod Tables
pub mod Ranges
pub mod Every
pub mod Equal
pub mod Writing
pub mod Writers
pub mod Parts
