pub mod Elements
pub mod Blocks
pub mod Moving
pub mod Sides
pub mod Fronts
pub mod TextFronts
