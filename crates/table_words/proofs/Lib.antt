pub mod Counts
pub mod TableFacts
