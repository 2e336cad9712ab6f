pub mod ListEdits
pub mod LaneEdits
pub mod Faults
pub mod Restored
pub mod Coming
pub mod ReadyFor
pub mod OrderChanges
