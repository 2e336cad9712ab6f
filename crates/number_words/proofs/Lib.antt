pub mod Digits
pub mod Numbers
pub mod Costs
pub mod Lines
pub mod Values
pub mod WordSteps
