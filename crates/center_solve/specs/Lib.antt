pub mod Center
pub mod Probing
pub mod Reach
