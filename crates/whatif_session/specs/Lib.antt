-- The definitions that the contracts cite.
pub mod State
pub mod Standing
pub mod Step
pub mod Input
pub mod Run
pub mod Calls
pub mod Codes
pub mod Kept
pub mod Booked
pub mod BookSteps
pub mod Search
pub mod Sound
pub mod Shown
pub mod Done
