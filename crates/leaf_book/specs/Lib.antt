-- The definitions that the contracts cite.
pub mod Sums
pub mod Book
pub mod Changes
pub mod Rows
pub mod Counts
pub mod Kept
pub mod Due
pub mod OneSite
pub mod BookDue
pub mod Stored
pub mod Course
