pub mod ByKind
pub mod Numbered
pub mod Ordered
