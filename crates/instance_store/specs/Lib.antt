pub mod Small
pub mod Lanes
pub mod Parts
pub mod Numbered
pub mod Places
pub mod Stored
pub mod Changes
pub mod Columns
