pub mod Rules
pub mod Children
pub mod Places
pub mod RowSteps
