-- The definitions that the contracts cite.
pub mod Network
pub mod Walks
pub mod Median
pub mod Pmed
pub mod Stored
pub mod Arcs
pub mod Labels
