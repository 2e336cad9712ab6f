pub mod Meant
pub mod Held
