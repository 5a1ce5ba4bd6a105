pub mod Bytes
pub mod Tree
pub mod Grammar
pub mod Form
pub mod CheckSteps
pub mod ScanSteps
pub mod FormSteps
