-- The definitions that the contracts cite.
pub mod Lines
pub mod Replies
pub mod State
pub mod Loaded
pub mod Leads
pub mod Step
pub mod Reloaded
pub mod Codes
pub mod Kept
pub mod Asked
pub mod Done
