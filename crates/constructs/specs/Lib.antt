pub mod Constructs
pub mod PhaseSteps
pub mod Tables
pub mod ReachSteps
pub mod TableSteps
pub mod Steps
