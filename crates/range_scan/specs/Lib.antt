pub mod Prices
pub mod Range
pub mod Short
