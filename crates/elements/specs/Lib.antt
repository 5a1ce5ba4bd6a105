pub mod Tags
pub mod Reading
pub mod StartSteps
pub mod TagSteps
pub mod ScanSteps
