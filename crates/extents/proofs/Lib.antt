pub mod Rows
pub mod Blocks
pub mod OneRow
pub mod Backwards
pub mod Sharing
pub mod Mapping
