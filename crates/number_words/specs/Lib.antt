-- The definitions that the contracts cite.
pub mod Cost
pub mod Line
pub mod Number
pub mod Scan
pub mod Words
