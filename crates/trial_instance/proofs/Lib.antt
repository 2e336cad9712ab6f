pub mod DrawSteps
pub mod Rows
