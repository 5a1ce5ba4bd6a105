pub mod Tape
pub mod ReadingSteps
pub mod WalkSteps
pub mod CellSteps
pub mod Answers
pub mod Again
pub mod Continued
pub mod Steps
