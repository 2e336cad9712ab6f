pub mod Levels
pub mod Ascent
pub mod Kept
pub mod Work
pub mod Steps
pub mod Walk
