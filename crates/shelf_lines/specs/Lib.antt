pub mod Faults
pub mod Input
pub mod Line
pub mod Rest
