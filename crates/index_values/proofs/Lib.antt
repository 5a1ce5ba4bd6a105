pub mod Found
pub mod RowTable
pub mod Judging
pub mod Differ
pub mod Shapes
pub mod Seated
