pub mod ReadRows
pub mod Whole
pub mod Meant
