pub mod Named
pub mod Stored
