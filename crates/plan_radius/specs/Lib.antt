pub mod Radius
pub mod Cheaper
pub mod Changing
pub mod Clearing
