pub mod Order
pub mod Placed
pub mod Listed
pub mod Stored
pub mod Building
pub mod Grown
pub mod Changed
