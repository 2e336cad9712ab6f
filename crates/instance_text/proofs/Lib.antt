pub mod Settling
pub mod ReadRows
pub mod Whole
pub mod Lines
pub mod Steps
pub mod Meant
pub mod ReadBack
pub mod Lengths
