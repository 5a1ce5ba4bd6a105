pub mod Paths
pub mod Steps
pub mod EachUp
