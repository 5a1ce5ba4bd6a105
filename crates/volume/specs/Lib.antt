pub mod Volume
pub mod Steps
pub mod Answers
pub mod Chosen
pub mod Continued
pub mod AnswerSteps
pub mod ChosenSteps
pub mod Readers
