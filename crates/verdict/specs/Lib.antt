pub mod Verdict
pub mod Rescue
pub mod Demand
pub mod Continued
pub mod Steps
