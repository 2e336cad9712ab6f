pub mod Arrays
pub mod Better
pub mod Improved
pub mod Transports
