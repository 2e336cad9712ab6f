pub mod ReadRows
pub mod Meant
pub mod Whole
