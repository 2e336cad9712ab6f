pub mod Feeds
pub mod InputSteps
pub mod Pieces
pub mod Split
pub mod Steps
pub mod Told
