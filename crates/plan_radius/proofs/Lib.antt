pub mod FreeLanes
pub mod Thresholds
pub mod Costless
pub mod LaneChanges
pub mod Clearing
